-- Entailments whose antecedents differ in length have no links.
use Rattle.std.proofs.Common.{◌≡◌, ℕ, zero, suc, Bool, true, false, List, [], ◌∷◌, map, length, take, None}
use Rattle.std.proofs.Common.{if◌then◌else◌, arith, refl, ap, leb-true, ◌∙◌}
use Rattle.std.specs.Prelude.{nat_eq, nat_le}
use Rattle.std.specs.List.{filter}
use Rattle.std.specs.Option.{is_none}
use Rattle.std.proofs.lemmas.Bool.{both_ways}
use Rattle.std.proofs.lemmas.Bool.Decides.{Decides-eqb}
use Rattle.std.proofs.lemmas.List.{length-map}
use Rattle.heap_formula.specs.Symbolic.{SymbolicHeap}
use Rattle.heap_formula.specs.Substitution.{apply_spatial}
use Rattle.heap_formula.specs.declared.commands.Command.{Command}
use Rattle.heap_formula.specs.declared.judgements.Judgement.{Judgement}
use Rattle.heap_formula.specs.declared.judgements.Judgement.TheVariants.{Entail, Term as Runs}
use Rattle.heap_formula.specs.declared.proof_rules.Link.{Link}
use Rattle.rule_table.specs.LinkTable.{parts_fault, link_fault}
use Rattle.rule_table.specs.RuleBook.{variables_of, leaves_nothing}
use Rattle.rule_table.proofs.LinkRule.{parts_are}
use Rattle.rule_table.proofs.LinkRuns.{all_chosen}
use Rattle.rule_table.proofs.Links.{length_left}
use Rattle.back_links.specs.Listing.{candidates, links}
use Rattle.search_moves.specs.Nodes.{MadeNode, judgement_of}
use Rattle.search_moves.specs.Lengths.{is_as_long}
use Rattle.search_moves.specs.Offering.{is_companion, links_to, whole_links}
use Rattle.cyc_basics.proofs.Options.{none_is}

as_long : (a : SymbolicHeap) (bs : List SymbolicHeap) (b : SymbolicHeap) (cs : List SymbolicHeap) (link : Link)
    → parts_fault a bs b cs (nat_le (length a.spatial) (length b.spatial)) link ≡ None
    → nat_eq (length a.spatial) (length b.spatial) ≡ true
as_long a bs b cs link e =
    let f = parts_are a bs b cs (nat_le (length a.spatial) (length b.spatial)) link e in
    let left = length_left a.pure a.spatial (λ _. true) link.map (map (apply_spatial link.subst) b.spatial) f.1 in
    let sent = length-map b.spatial (apply_spatial link.subst) in
    let whole = ap length (all_chosen a.spatial) in
    let most = leb-true (length a.spatial) (length b.spatial) f.2 in
    (Decides-eqb (length a.spatial) (length b.spatial)).1 (omega (arith, left, sent, whole, most))

none_passes : (test : Link → Bool) (xs : List Link) → ((x : Link) → test x ≡ true → ⊥) → filter test xs ≡ []
none_passes test [] h = refl
none_passes test (x ∷ xs) h = by (test x) refl (none_passes test xs h)
  where
    by : (b : Bool) → test x ≡ b → filter test xs ≡ [] → (if b then x ∷ filter test xs else filter test xs) ≡ []
    by true e rest = absurd (h x e)
    by false e rest = rest

unlinked : (j c : Judgement) (v p : ℕ) → is_as_long j c ≡ false → links j c v p ≡ []
unlinked (Entail a bs) (Entail b cs) v p e =
    none_passes (λ l. is_none (link_fault (Entail a bs) (Entail b cs) l p)) (candidates (Entail a bs) (Entail b cs) v)
    (λ l h. both_ways (nat_eq (length a.spatial) (length b.spatial)) e (as_long a bs b cs l (none_is _ h)))
unlinked (Entail a bs) (Runs k b) v p e = cc
unlinked (Runs i a) c v p e = cc

-- so none to such a node
pub none_to : (most : ℕ) (lines : List Command) (j : Judgement) (v : ℕ) (node : MadeNode)
    → is_as_long j (judgement_of node) ≡ false → links_to most lines j v node ≡ []
none_to most lines j v node e = by (is_companion j node)
  where
    none : (n : ℕ) → take {A = Link} n [] ≡ []
    none zero = refl
    none (suc n) = refl

    whole : (b : Bool) → (if b then take most (links j (judgement_of node) v (variables_of lines j)) else []) ≡ []
    whole true = ap (take most) (unlinked j (judgement_of node) v (variables_of lines j) e) ∙ none most
    whole false = refl

    by : (b : Bool) → (if b then whole_links most lines j v (judgement_of node) else []) ≡ []
    by true = whole (leaves_nothing lines j (judgement_of node))
    by false = refl
