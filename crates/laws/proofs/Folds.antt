-- What a fold leaves.
--     fold_from_yields_List     over an iterator, where each call of its closure is a function of the two arguments
--     every_fold                a flag over a whole list
use mathlib.Core.Bool.{Bool, ◌&&◌}
use mathlib.Core.List.{List, [], ◌∷◌}
use mathlib.Core.Path.{◌≡◌, refl, ap, sym, ◌∙◌}
use denote.Param.Members.{Mut}
use Rattle.std.proofs.lemmas.Fn.{fold_over}
use Rattle.std.proofs.lemmas.Iterator.{YieldsList}
use Rattle.std.proofs.lemmas.List.Sums.{fold-append}
use Rattle.std.specs.Fn.{Called}
use Rattle.std.specs.Iterator.{Drains}
use Rattle.std.specs.List.{FoldsTo, fold}
use Rattle.std.specs.Prelude.{Option}
use Rattle.laws.specs.Lists.{every}
use Rattle.laws.proofs.Tests.{and_right, and_assoc}

pub fold_from_yields_List : {S A B F C : Type 0} {steps : S → Option A → S → Type 0} {v : A → B} {g : Mut F (C × (A × Unit {0})) C} {f : F} {s : S} {all : List B} {a r : C} (h : C → B → C)
    → (xs : List A) × (f' : F) × Drains steps s xs × FoldsTo {P = F × C} (λ p x q. Called g p.0 (p.1, (x, tt)) q.1 q.0) (f, a) xs (f', r)
    → YieldsList steps v s all
    → ((b : C) (x : A) (d : C) (f' : F) → Called g f (b, (x, tt)) d f' → (d ≡ h b (v x)) × (f' ≡ f))
    → r ≡ fold h a all
fold_from_yields_List {S} {A} {B} {F} {C} {steps} {v} {g} {f} {s} {all} {a} {r} h ran road step =
    fold_over steps v g (λ ys b. b ≡ fold h a ys) f
    (λ ys b x d f' so_far k. let t = step b x d f' k in (t.0 ∙ ap (λ c. h c (v x)) so_far ∙ sym (fold-append h a ys (v x ∷ [])), t.1))
    s all a r road.runs refl ran

pub every_fold : {A : Type 0} (f : A → Bool) (ok : Bool) (l : List A) → fold (λ good x. good && f x) ok l ≡ (ok && every f l)
unfolding every
every_fold f ok [] = sym (and_right ok)
every_fold f ok (x ∷ l) = every_fold f (ok && f x) l ∙ and_assoc ok (f x) (every f l)
