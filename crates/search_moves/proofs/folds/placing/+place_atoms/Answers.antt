use Rattle.std.proofs.Common.{rules, ◌≡◌, ◌≤◌, ◌++◌, ◌∷◌, [], Some, None, ℕ, ◌-◌, ◌<◌, true, false, List, if◌then◌else◌}
use Rattle.std.proofs.Common.{length, take, drop, refl}
use Rattle.std.proofs.lemmas.List.{append-nil}
use Rattle.heap_formula.specs.declared.atoms.Spatial.{Spatial}
use Rattle.heap_formula.specs.declared.proof_rules.Rule.{Rule}
use Rattle.rule_table.specs.Tests.{has_number}
use Rattle.search_moves.specs.Folds.{Binding, fold_by, placed, bind_atom}
use Rattle.search_moves.proofs.Rest.{step_on, all_given}
use Rattle.search_moves.proofs.folds.placing.+place_atoms.Goals.{then-not-is_among+in_ok-bound+in-Some+in_ok-places+in_ok-place_atoms, then-not-is_among+in_ok-bound+in_default-2, else-not-is_among}
use Rattle.search_moves.proofs.folds.placing.+place_atoms.Goals as goal
use Rattle.cyc_basics.proofs.Parts.{first_and_rest}

pub loop-i-preserved : goal.loop-i-preserved
loop-i-preserved t c =
    let F : List ℕ → Binding
    → List Rule = fold_by c.args.fold.now.state.now c.args.fold.now.predicate c.args.fold.now.arity
    c.args.fold.now.case.now in
    let ys : List Spatial = c.args.fold.now.state.now.spatial in
    let rest : List Spatial = take (length c.args.atoms.now - 1) (drop 1 c.args.atoms.now) in
    let places : List ℕ = c.args.places.now in
    let f : ℕ → Spatial → List Rule = λ i y. if has_number places i then [] else placed F ys rest (places ++ i ∷ [])
    (bind_atom c.args.binding.now c.atom-item.result y) in
    let given : c.if-not-is_among.rules.items ≡ c.loop-i.rules.items
    ++ f c.loop-i.i c.other-item.result = elim c.if-not-is_among.branch [
      | then-not-is_among+in_ok-bound+in-Some+in_ok-places+in_ok-place_atoms w ↦
          let free : has_number c.args.places.now c.loop-i.i ≡ false = search rules in
          let bound : bind_atom c.args.binding.now c.atom-item.result c.other-item.result
          ≡ Some w.in-Some.bound.items = search rules in
          let there : w.in_ok-places.places.items ≡ c.args.places.now ++ c.loop-i.i ∷ [] = search rules in
          let done : c.if-not-is_among.rules.items ≡ c.loop-i.rules.items
          ++ placed F ys rest w.in_ok-places.places.items (Some w.in-Some.bound.items) = search rules in
          rw (free, bound, ← there) done
      | then-not-is_among+in_ok-bound+in_default-2 w ↦
          let free : has_number c.args.places.now c.loop-i.i ≡ false = search rules in
          let bound : bind_atom c.args.binding.now c.atom-item.result c.other-item.result ≡ None = search rules in
          let same : c.if-not-is_among.rules.items ≡ c.loop-i.rules.items = search rules in
          rw (free, bound, same, append-nil) refl
      | else-not-is_among w ↦
          let taken : has_number c.args.places.now c.loop-i.i ≡ true = search rules in
          let same : c.if-not-is_among.rules.items ≡ c.loop-i.rules.items = search rules in
          rw (taken, same, append-nil) refl
    ] in
    let l : c.loop-i.i < length ys = search rules in
    let at : c.other-item.result ≡ lib.ListN.get_or ys c.loop-i.i c.other-item.result = search rules in
    step_on f c.loop-i.i ys c.other-item.result c.loop-i.rules.items c.if-not-is_among.rules.items _ l at given
    c.loop-i.invariant

pub returns : goal.returns
returns t c =
    let F : List ℕ → Binding
    → List Rule = fold_by c.args.fold.now.state.now c.args.fold.now.predicate c.args.fold.now.arity
    c.args.fold.now.case.now in
    let ys : List Spatial = c.args.fold.now.state.now.spatial in
    let rest : List Spatial = take (length c.args.atoms.now - 1) (drop 1 c.args.atoms.now) in
    let places : List ℕ = c.args.places.now in
    let f : ℕ → Spatial → List Rule = λ i y. if has_number places i then [] else placed F ys rest (places ++ i ∷ [])
    (bind_atom c.args.binding.now c.atom-item.result y) in
    let end : length ys ≤ c.loop-i.i = search rules in
    let all : c.loop-i.rules.items ≡ c.args.rules.now.items
    ++ placed F ys (c.atom-item.result ∷ rest) c.args.places.now (Some c.args.binding.now)
    = all_given f c.loop-i.i ys c.loop-i.rules.items _ end c.loop-i.invariant in
    let whole : c.args.atoms.now ≡ c.atom-item.result
    ∷ rest = first_and_rest c.args.atoms.now c.atom-item.result (search rules) (search rules) in
    rw whole all
