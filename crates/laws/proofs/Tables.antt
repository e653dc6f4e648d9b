-- The rows of a table, one after the other.

infixr 10 ◌then◌
-- a row and the rows after it
pub ◌then◌ : {A B : Type 0} → A → B → A × B
◌then◌ a b = (a, b)
