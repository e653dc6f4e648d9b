-- What the checks of a taken Feed and Read out have shown, readings that are cut into Feeds, what Covered says of a sound board, and the laws.
pub mod Known
pub mod FeedChecked
pub mod Parts
pub mod Feeds
pub mod ReadOutChecked
pub mod Says
pub mod Laws
