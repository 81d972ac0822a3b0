use Rattle.std.proofs.Common.{◌≡◌, ℕ, ◌<◌, ◌≤◌, ◌++◌, ◌∷◌, [], List, length, take, drop, sym, ap, ◌∙◌, subst, arith}
use Rattle.std.specs.Prelude.{if◌then◌else◌}
use Rattle.std.specs.Result.{OnOk}
use Rattle.heap_formula.specs.Symbolic.{SymbolicHeap}
use Rattle.std.proofs.lemmas.Bool.Decides.{nat_tests}
use Rattle.heap_formula.specs.declared.atoms.Spatial.{Spatial}
use Rattle.heap_formula.specs.declared.proof_rules.Link.{Link}
use Rattle.heap_formula.specs.Judgements.{antecedent}
use Rattle.back_links.specs.Listing.{number_choices, value_choices}
use Rattle.back_links.specs.Branches.{by_places, by_pairs}
use Rattle.back_links.proofs.Selecting.{number_next, number_cut, numbers_done, tail_is, last_off}
use Rattle.back_links.proofs.Cuts.{places_end, places_all}
use Rattle.back_links.proofs.listing.+choose_places.Goals.{then-put+in_ok-choose_places, else-put}
use Rattle.back_links.proofs.listing.+choose_places.Goals as goal
use Rattle.std.proofs.lemmas.List.{nil_from_length}

pub loop-m-preserved : goal.loop-m-preserved
loop-m-preserved t c =
    let s = c.args.search.now in
    let from = λ
    (made : List ℕ). by_places s.bud.now s.companion.now s.target s.variables s.values.now s.sources.now made
    (number_choices (antecedent s.bud.now).spatial (drop 1 c.args.rest.now)) in
    let below : c.loop-m.m < length (antecedent s.bud.now).spatial = subst
    (λ (xs : List Spatial). c.loop-m.m < length xs) (c.spatial-m-end.ensures.value
    ∙ ap (λ (a : SymbolicHeap). a.spatial) c.antecedent.ensures) c.loop-m-test.true in
    let old = c.args.made.now.items in
    let same : c.loop-m.made.items ≡ old = c.loop-m.invariant.2 in
    elim c.if-put.branch [
      | then-put+in_ok-choose_places w ↦
          let grown : c.put_open_place.new.made.items ≡ old ++ c.loop-m.m ∷ [] = c.in_ok-put.ensures.made
          ∙ (λ i. if w.if-put.true i then same i ++ c.loop-m.m ∷ [] else same i) in
          let next = number_next s.most (λ (m : ℕ). from (old ++ m ∷ []))
          w.choose_places.new.found.items c.loop-m.found.items c.loop-m.m (length (antecedent s.bud.now).spatial)
          _ below (w.in_ok-choose_places.ensures.found ∙
          (λ i. take s.most
          (c.loop-m.found.items
          ++ by_places s.bud.now s.companion.now s.target s.variables s.values.now s.sources.now (grown i)
          (number_choices (antecedent s.bud.now).spatial (tail_is c.args.rest.now i))))) c.loop-m.invariant.0 in
          rw (w.found-is, w.made-is) (
            next.0,
            next.1,
            last_off old w.choose_places.new.made.items w.pop.new.self.items c.loop-m.m w.choose_places.new.made.len
                (w.in_ok-choose_places.ensures.made ∙ grown) w.choose_places.new.made.ok.0 w.pop.ensures.rest,
          )
      | else-put w ↦
          let places = number_choices (antecedent s.bud.now).spatial (drop 1 c.args.rest.now) in
          let nothing : from (old ++ c.loop-m.m ∷ [])
          ≡ [] = subst (λ (ms : List ℕ). from (ms ++ c.loop-m.m ∷ []) ≡ []) same
          (c.in_ok-put.ensures.closed w.if-put.false places) in
          let kept : c.put_open_place.new.made.items ≡ old = c.in_ok-put.ensures.made
          ∙ (λ i. if w.if-put.false i then same i ++ c.loop-m.m ∷ [] else same i) in
          let next = number_cut s.most (λ (m : ℕ). from (old ++ m ∷ [])) c.loop-m.found.items c.loop-m.m
          (length (antecedent s.bud.now).spatial) _ below nothing c.loop-m.invariant.1 c.loop-m.invariant.0 in
          rw (w.found-is, w.made-is) (next.0, next.1, kept)
    ]

pub returns-clause-found : goal.returns-clause-found
returns-clause-found t c =
    let s = c.args.search.now in
    let past : length (antecedent s.bud.now).spatial ≤ c.loop-m.m = subst
    (λ (xs : List Spatial). length xs ≤ c.loop-m.m) (c.spatial-m-end.ensures.value
    ∙ ap (λ (a : SymbolicHeap). a.spatial) c.antecedent.ensures) c.loop-m-test.false in
    let some : 0 < length c.args.rest.now = grind (arith, nat_tests, sym c.is_empty.ensures ∙ c.if-is_empty.false) in
    numbers_done s.most (λ (m : ℕ). by_places s.bud.now s.companion.now s.target s.variables s.values.now s.sources.now
    (c.args.made.now.items ++ m ∷ []) (number_choices (antecedent s.bud.now).spatial (drop 1 c.args.rest.now)))
    c.loop-m.found.items c.loop-m.m (length (antecedent s.bud.now).spatial)
    _ past c.loop-m.invariant.1 c.loop-m.invariant.0
    ∙ ap (λ (zs : List Link). take s.most (c.args.found.now.items ++ zs))
    (places_all s.bud.now s.companion.now s.target s.variables s.values.now s.sources.now c.args.made.now.items
    c.args.rest.now some)

pub returns-then-is_empty-clause-found : goal.returns-then-is_empty-clause-found
returns-then-is_empty-clause-found t c =
    let s = c.args.search.now in
    let none : length c.args.rest.now ≡ 0 = grind (arith, nat_tests, sym c.is_empty.ensures ∙ c.if-is_empty.true) in
    let done : by_pairs s.bud.now s.companion.now s.target s.variables c.deref.result.now c.new-pairs.result.items
    (value_choices s.values.now s.sources.now)
    ≡ by_places s.bud.now s.companion.now s.target s.variables s.values.now s.sources.now c.args.made.now.items
    (number_choices (antecedent s.bud.now).spatial c.args.rest.now) =
    (λ i. by_pairs s.bud.now s.companion.now s.target s.variables (c.deref.ensures.value i)
    (c.new-pairs.ensures.items i) (value_choices s.values.now s.sources.now))
    ∙ places_end s.bud.now s.companion.now s.target s.variables s.values.now s.sources.now c.args.made.now.items
    ∙ ap (λ (xs : List Spatial). by_places s.bud.now s.companion.now s.target s.variables s.values.now s.sources.now
    c.args.made.now.items (number_choices (antecedent s.bud.now).spatial xs))
    (sym (nil_from_length c.args.rest.now none)) in
    subst (λ (zs : List Link). OnOk c.choose_values.result
    (c.choose_values.new.found.items ≡ take s.most (c.args.found.now.items ++ zs)))
    done c.choose_values.ensures.found
