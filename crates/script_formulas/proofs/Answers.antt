-- Answers that come of answers.
use Rattle.std.proofs.Common.{◌≡◌, Bool, true, false, Option, Some, None, Ok, Err, refl}
use Rattle.std.specs.Prelude.{if◌then◌else◌, Result, IfOk}
use Rattle.script_formulas.specs.declared.cases.refused.Unsupported.{Unsupported}
use Rattle.script_formulas.specs.Cases.{Answer, after}
use Rattle.script_formulas.specs.Joining.{unless}

pub not_answered : {A : Type 0} {x : A} (e : Unsupported) → (let r : Answer A = Err e in r) ≡ Ok x → ⊥
not_answered e p = cc

-- what comes of an answer comes of what was answered
pub after_answer : {A B : Type 0} (r : Answer A) (f : A → Answer B) (y : B) → after r f ≡ Ok y
    → (x : A) × (r ≡ Ok x) × (f x ≡ Ok y)
after_answer (Ok x) f y p = (x, refl, p)
after_answer (Err e) f y p = absurd cc

pub unless_answer : {A : Type 0} (o : Option Unsupported) (r : Answer A) (y : A) → unless o r ≡ Ok y
    → (o ≡ None) × (r ≡ Ok y)
unless_answer (Some e) r y p = absurd cc
unless_answer None r y p = (refl, p)

-- a refusal under a test that does not come
pub test_answer : {A : Type 0} (b : Bool) (e : Unsupported) (r : Answer A) (y : A) → (if b then Err e else r) ≡ Ok y
    → (b ≡ false) × (r ≡ Ok y)
test_answer true e r y p = absurd cc
test_answer false e r y p = (refl, p)

pub test_none : (b : Bool) (e : Unsupported) (o : Option Unsupported) → (if b then Some e else o) ≡ None
    → (b ≡ false) × (o ≡ None)
test_none true e o p = absurd cc
test_none false e o p = (refl, p)

pub same_answer : {A : Type 0} (x y : A) → (let r : Answer A = Ok x in r) ≡ Ok y → x ≡ y
same_answer x y p = cc

-- a clause on what is answered, and what follows of it
pub ok_imply : {A E : Type 0} (r : Result A E) (P Q : A → Type 0) → ((x : A) → P x → Q x) → IfOk r P → IfOk r Q
ok_imply (Ok x) P Q g p = g x p
ok_imply (Err e) P Q g p = p
