-- A test of each element, in four parts of one length at once.
--     Four                 all of four lists
--     four_flag            a loop that keeps a flag: the flag, and what is left of the four lists from i on
--     quarters             a list is four parts of one length, and what is left over
use mathlib.Core.Path.{◌≡◌, refl, sym}
use mathlib.Core.Bool.{Bool, true, false, ◌&&◌}
use mathlib.Core.List.{List, [], ◌∷◌}
use Prim.Native.Nat.{ℕ, zero, suc, ◌+◌, ◌<◌}
use native.Mathlib.Numerals.{add-one}
use lib.ListN.{length, get_or, take, drop}
use lib.Seq.{drop-cons, drop-drop}
use Rattle.laws.specs.Lists.{every}
use Rattle.laws.proofs.Tests.{and_assoc}

and_swap : (x p y q : Bool) → x && p && (y && q) ≡ x && y && (p && q)
and_swap false p y q = refl
and_swap true true y q = refl
and_swap true false true q = refl
and_swap true false false q = refl

gather : (ok x p y q u r v s : Bool) → ok && (x && p && (y && q) && (u && r && (v && s))) ≡ ok && (x && y && (u && v)) && (p && q && (r && s))
gather ok x p y q u r v s =
    rw (and_swap x p y q, and_swap u r v s, and_swap (x && y) (p && q) (u && v) (r && s)) (sym (and_assoc ok (x && y && (u && v)) (p && q && (r && s))))

nest : (x y u v r : Bool) → x && (y && (u && (v && r))) ≡ x && y && (u && v) && r
nest false y u v r = refl
nest true false u v r = refl
nest true true false v r = refl
nest true true true v r = refl

module _ {A : Type 0} (f : A → Bool) where
  abbrev pub Four : List A → List A → List A → List A → Bool
  Four a b c d = every f a && every f b && (every f c && every f d)

  module _ (a b c d : List A) (i : ℕ) where
    pub four_flag : (z : A) → i < length a → i < length b → i < length c → i < length d
        → (ok x y u v : Bool) → x ≡ f (get_or a i z) → y ≡ f (get_or b i z) → u ≡ f (get_or c i z) → v ≡ f (get_or d i z)
        → (ok && Four (drop i a) (drop i b) (drop i c) (drop i d)) ≡ (ok && (x && y && (u && v)) && Four (drop (i + 1) a) (drop (i + 1) b) (drop (i + 1) c) (drop (i + 1) d))
    unfolding every
    four_flag z h k l m ok x y u v e g n o =
        rw (add-one, drop-cons a i z h, drop-cons b i z k, drop-cons c i z l, drop-cons d i z m, e, g, n, o) (gather ok (f (get_or a i z)) (every f (drop (suc i) a)) (f (get_or b i z)) (every f (drop (suc i) b)) (f (get_or c i z)) (every f (drop (suc i) c)) (f (get_or d i z)) (every f (drop (suc i) d)))

  split : (n : ℕ) (l : List A) → every f l ≡ every f (take n l) && every f (drop n l)
  unfolding every
  split zero l = refl
  split (suc n) [] = refl
  split (suc n) (x ∷ l) = rw (split n l) (sym (and_assoc (f x) (every f (take n l)) (every f (drop n l))))

  split_on : (n m : ℕ) (l : List A) → every f (drop m l) ≡ every f (take n (drop m l)) && every f (drop (m + n) l)
  split_on n m l = rw (← drop-drop n m l) (split n (drop m l))

  pub quarters : (n : ℕ) (l : List A)
      → every f l ≡ Four (take n l) (take n (drop n l)) (take n (drop (n + n) l)) (take n (drop (n + n + n) l)) && every f (drop (n + n + n + n) l)
  quarters n l =
      rw (split n l, split_on n n l, split_on n (n + n) l, split_on n (n + n + n) l)
      (nest (every f (take n l)) (every f (take n (drop n l))) (every f (take n (drop (n + n) l))) (every f (take n (drop (n + n + n) l))) (every f (drop (n + n + n + n) l)))
