-- An array whose items are the answers of calls that change nothing.
--     answers_each     the items, by the rule that the answers follow
use Rattle.std.proofs.Common.{◌≡◌, ℕ, zero, suc, ◌+◌, ◌<◌, List, sym, ◌∙◌, subst, arith, slice_index_or}
use Rattle.std.proofs.lemmas.List.{same_lists}
use denote.Param.Members.{Mut, Called}
use Rattle.std.specs.Array.{IsFromFnResultFrom, IsFromFnResult}
use Rattle.laws.specs.Lists.{each}
use Rattle.laws.proofs.Each.{each_length, each_at}

module _ {F B : Type 0} (g : Mut F (ℕ × Unit {0}) B) (f : F) (rule : ℕ → B) (step : (i : ℕ) (y : B) (q : F) → Called g f (i, tt) y q → (y ≡ rule i) × (q ≡ f)) where
  answer_at : (ys : List B) (i n : ℕ) → IsFromFnResultFrom g f ys i n → (j : ℕ) (d : B) → j < n → slice_index_or ys (i + j) d ≡ rule (i + j)
  answer_at ys i zero h j d k = absurd (omega arith)
  answer_at ys i (suc n) (q, y, e, called, rest) zero d k =
      let z : i + 0 ≡ i = omega arith in
      rw z (e.1 d ∙ (step i y q called).0)
  answer_at ys i (suc n) (q, y, e, called, rest) (suc j) d k =
      let z : i + 1 + j ≡ i + suc j = omega arith in
      rw z at (answer_at ys (i + 1) n (subst (λ (p : F). IsFromFnResultFrom g p ys (i + 1) n) (step i y q called).1 rest) j d (omega arith))

  pub answers_each : (ys : List B) (n : ℕ) → IsFromFnResult g f ys n → ys ≡ each rule n
  answers_each ys n h =
      same_lists ys (each rule n) (h.long ∙ sym (each_length rule n)) (λ k d b.
      let u : k < n = subst (λ m. k < m) h.long b in
      let z : 0 + k ≡ k = omega arith in
      rw z at (answer_at ys 0 n h.each k d u) ∙ sym (each_at rule n k d u))
