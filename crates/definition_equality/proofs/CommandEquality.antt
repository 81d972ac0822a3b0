-- The comparison of commands decides equality.
use Rattle.std.proofs.Common.{◌≡◌, Bool, true, false, ◌&&◌, refl, ap}
use Rattle.std.specs.Bool.{Decides}
use Rattle.std.proofs.lemmas.Bool.Decides.{Decides-eqb}
use Rattle.std.specs.Prelude.{nat_eq}
use Rattle.heap_formula.specs.declared.terms.Term.{Term}
use Rattle.heap_formula.specs.contracts.terms.TermPartialEq.TheImpl.{eq-value as term_eq}
use Rattle.heap_formula.specs.declared.commands.Command.{Command}
use Rattle.heap_formula.specs.declared.commands.Command.TheVariants.{Assign, Load, Store, New, Free, IfEq, IfNeq, IfAny}
use Rattle.heap_formula.specs.declared.commands.Command.TheVariants.{Goto, Stop, Ends}
use Rattle.heap_formula.specs.contracts.commands.CommandPartialEq.TheImpl.{eq-value as command_eq}
use Rattle.heap_formula.proofs.Equal.{both_Decides, term_eq-Decides, disjuncts_eq-Decides}

three_Decides : {P Q R S : Type 0} (p q r : Bool) → Decides p P → Decides q Q → Decides r R → (P → Q → R → S)
    → (S → P × Q × R) → Decides (p && (q && r)) S
three_Decides {Q = Q} {R = R} p q r h k l f g =
    let later : Decides (q && r) (Q × R) = both_Decides q r k l (λ y z. (y, z)) (λ yz. yz) in
    both_Decides p (q && r) h later (λ x yz. f x yz.0 yz.1) (λ s. ((g s).0, ((g s).1, (g s).2)))

pub command_eq-Decides : (a b : Command) → Decides (command_eq.it a b) (a ≡ b)
command_eq-Decides (Assign x t) (Assign y u) = both_Decides (nat_eq x y) (term_eq.it t u) (Decides-eqb x y)
    (term_eq-Decides t u) (λ p q i. Assign (p i) (q i)) (λ e. (cc, cc))
command_eq-Decides (Load x t k) (Load y u l) = three_Decides (nat_eq x y) (term_eq.it t u) (nat_eq k l)
    (Decides-eqb x y) (term_eq-Decides t u) (Decides-eqb k l) (λ p q r i. Load (p i) (q i) (r i)) (λ e. (cc, cc, cc))
command_eq-Decides (Store t k s) (Store u l r) = three_Decides (term_eq.it t u) (nat_eq k l) (term_eq.it s r)
    (term_eq-Decides t u) (Decides-eqb k l) (term_eq-Decides s r) (λ p q o i. Store (p i) (q i) (o i))
    (λ e. (cc, cc, cc))
command_eq-Decides (New x k) (New y l) = both_Decides (nat_eq x y) (nat_eq k l) (Decides-eqb x y) (Decides-eqb k l)
    (λ p q i. New (p i) (q i)) (λ e. (cc, cc))
command_eq-Decides (Free t) (Free u) = let d = term_eq-Decides t u in (λ e. ap Free (d.0 e), λ e. d.1 (cc))
command_eq-Decides (IfEq t s k) (IfEq u r l) = three_Decides (term_eq.it t u) (term_eq.it s r) (nat_eq k l)
    (term_eq-Decides t u) (term_eq-Decides s r) (Decides-eqb k l) (λ p q o i. IfEq (p i) (q i) (o i))
    (λ e. (cc, cc, cc))
command_eq-Decides (IfNeq t s k) (IfNeq u r l) = three_Decides (term_eq.it t u) (term_eq.it s r) (nat_eq k l)
    (term_eq-Decides t u) (term_eq-Decides s r) (Decides-eqb k l) (λ p q o i. IfNeq (p i) (q i) (o i))
    (λ e. (cc, cc, cc))
command_eq-Decides (IfAny k) (IfAny l) = let d = Decides-eqb k l in (λ e. ap IfAny (d.0 e), λ e. d.1 (cc))
command_eq-Decides (Goto k) (Goto l) = let d = Decides-eqb k l in (λ e. ap Goto (d.0 e), λ e. d.1 (cc))
command_eq-Decides Stop Stop = (λ e. refl, λ e. refl)
command_eq-Decides (Ends bs) (Ends cs) = let d = disjuncts_eq-Decides bs cs _ refl in (λ e. ap Ends (d.0 e), λ e. d.1 (cc))
command_eq-Decides a b = (λ e. cc, λ e. cc)
