-- General words that the definitions share. No term of the product stands here.
pub mod Lists
pub mod Numbers
pub mod Tables
