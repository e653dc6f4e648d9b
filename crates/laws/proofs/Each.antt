-- The laws of `each`.
--     each_length     how many
--     each_same       the same elements, the same list
--     each_append     a list in two parts
--     each_store, each_part    one store more, and a part more
--     each_at         an element
use mathlib.Core.Path.{◌≡◌, refl, sym, ap, ◌∙◌}
use mathlib.Core.List.{List, [], ◌∷◌, ◌++◌, append_assoc, append-nil}
use Prim.Native.Nat.{ℕ, zero, suc, ◌+◌, ◌<◌}
use native.Mathlib.Numerals.{add-one}
use native.Mathlib.Nat.{add-zero, add-suc}
use native.Mathlib.Omega.{arith}
use mathlib.Core.Logic.{◌⊎◌, inl, inr, ⊎_elim}
use borrow.Author.Tests.{ltb-true, ltb-false}
use lib.Dec.{ltb}
use lib.ListN.{length, take, set, get_or, length-append, get_or-append}
use lib.Seq.{take-suc-set, take_at, get_or-append_seam}
use Rattle.laws.specs.Lists.{each}
use Rattle.laws.proofs.Tests.{cases}

last : (i n : ℕ) → i < suc n → (i < n) ⊎ (i ≡ n)
last i n h = cases (ltb i n) (λ e. inl (omega (arith, ltb-true i n e))) (λ e. inr (omega (arith, ltb-false i n e)))

module _ {A : Type 0} where
  pub each_length : (f : ℕ → A) (n : ℕ) → length (each f n) ≡ n
  unfolding each
  each_length f zero = refl
  each_length f (suc n) = simp (length-append, each_length f n) (omega arith)

  pub each_same : (f g : ℕ → A) (n : ℕ) → ((i : ℕ) → i < n → f i ≡ g i) → each f n ≡ each g n
  unfolding each
  each_same f g zero h = refl
  each_same f g (suc n) h =
      rw (each_same f g n (λ i k. h i (omega arith)), h n (omega arith))

  pub each_append : (f : ℕ → A) (n m : ℕ) → each f (n + m) ≡ each f n ++ each (λ i. f (n + i)) m
  unfolding each
  each_append f n zero = rw (add-zero n) (sym (append-nil (each f n)))
  each_append f n (suc m) = rw (add-suc n m, each_append f n m) (append_assoc (each f n) (each (λ i. f (n + i)) m) (f (n + m) ∷ []))

  pub each_store : (f : ℕ → A) (l : List A) (i : ℕ) (v : A) → i < length l → take i l ≡ each f i → v ≡ f i → take (i + 1) (set l i v) ≡ each f (i + 1)
  unfolding each
  each_store f l i v h e k = rw (add-one i, take-suc-set l i v h, e, k)

  -- a part is stored after n elements
  pub each_part : (f g : ℕ → A) (n m : ℕ) (rest : List A) → ((i : ℕ) → i < m → g i ≡ f (n + i)) → take (n + m) (each f n ++ (each g m ++ rest)) ≡ each f (n + m)
  each_part f g n m rest h =
      ap (take (n + m)) (sym (append_assoc (each f n) (each g m) rest))
      ∙ take_at (each f n ++ each g m) rest (n + m) (simp (length-append, each_length))
      ∙ rw (each_same g (λ i. f (n + i)) m h) (sym (each_append f n m))

  pub each_at : (f : ℕ → A) (n i : ℕ) (d : A) → i < n → get_or (each f n) i d ≡ f i
  unfolding each
  each_at f zero i d h = absurd (omega arith)
  each_at f (suc n) i d h =
      ⊎_elim
      (λ (l : i < n). get_or-append (each f n) (f n ∷ []) d i (rw (each_length f n) l) ∙ each_at f n i d l)
      (λ (e : i ≡ n). rw e (ap (λ (k : ℕ). get_or (each f n ++ (f n ∷ [])) k d) (sym (each_length f n)) ∙ get_or-append_seam (each f n) (f n) [] d))
      (last i n h)
