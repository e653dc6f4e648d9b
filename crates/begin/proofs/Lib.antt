-- The board that Open, Update and Start leave.
pub mod Beginning
