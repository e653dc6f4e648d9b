-- The codes of a word: how far the ordinary ones go, and which ones are flags.
use Rattle.std.specs.Prelude.{ℕ, ◌+◌}

-- a word below it is ordinary
abbrev pub ordinary_end : ℕ
ordinary_end = 32752

-- saturated at sample n, n from 1: 32,752 + n
abbrev pub saturated_at : ℕ → ℕ
saturated_at n = ordinary_end + n

-- saturated at sample 1, and at sample 9
abbrev pub first_saturated : ℕ
first_saturated = 32753

abbrev pub last_saturated : ℕ
last_saturated = 32761

-- negative
abbrev pub negative_code : ℕ
negative_code = 32767

-- an ordinary word is a divided sum's remainder by it
abbrev pub word_modulus : ℕ
word_modulus = 32768
