use Rattle.std.proofs.Common.{◌≡◌, ℕ, ◌<◌, ◌++◌, ◌∷◌, [], List, length, take, drop, get_or, sym, ap, ◌∙◌, subst, arith}
use Rattle.std.specs.Prelude.{if◌then◌else◌}
use Rattle.std.specs.Result.{OnOk}
use Rattle.std.proofs.lemmas.Bool.Decides.{nat_tests}
use Rattle.heap_formula.specs.declared.terms.Term.{Term}
use Rattle.heap_formula.specs.declared.terms.Term.TheVariants.{Nil}
use Rattle.heap_formula.specs.declared.proof_rules.Link.{Link}
use Rattle.heap_formula.specs.Substitution.{Bindings}
use Rattle.rule_table.specs.Answer.{disjuncts}
use Rattle.back_links.specs.Listing.{value_choices, number_choices}
use Rattle.back_links.specs.Branches.{by_pairs, by_entries}
use Rattle.back_links.proofs.Selecting.{item_next, item_cut, items_done, tail_is, last_off}
use Rattle.back_links.proofs.Cuts.{pairs_end, pairs_all}
use Rattle.back_links.proofs.listing.+choose_values.Goals.{then-put+in_ok-choose_values, else-put}
use Rattle.back_links.proofs.listing.+choose_values.Goals as goal
use Rattle.std.proofs.lemmas.List.{nil_from_length}

pub loop-v-preserved : goal.loop-v-preserved
loop-v-preserved t c =
    let s = c.args.search.now in
    let n = get_or c.args.rest.now 0 0 in
    let from = λ (made : Bindings). by_pairs s.bud.now s.companion.now s.target s.variables c.args.places.now made
    (value_choices s.values.now (drop 1 c.args.rest.now)) in
    let v = get_or s.values.now c.loop-v.v-index Nil in
    let old = c.args.made.now.items in
    let same : c.loop-v.made.items ≡ old = c.loop-v.invariant.2 in
    elim c.if-put.branch [
      | then-put+in_ok-choose_values w ↦
          let grown : c.put_open_pair.new.made.items ≡ old ++ (n, v) ∷ [] = c.in_ok-put.ensures.made
          ∙ (λ i. if w.if-put.true i then same i ++ (n, v) ∷ [] else same i) in
          let next = item_next s.most (λ (u : Term). from (old ++ (n, u) ∷ []))
          w.choose_values.new.found.items c.loop-v.found.items s.values.now c.loop-v.v-index Nil _
          c.loop-v-test.true (w.in_ok-choose_values.ensures.found
          ∙ (λ i. take s.most
          (c.loop-v.found.items ++ by_pairs s.bud.now s.companion.now s.target s.variables c.args.places.now
          (grown i) (value_choices s.values.now (tail_is c.args.rest.now i))))) c.loop-v.invariant.0 in
          rw (w.found-is, w.made-is) (
            next.0,
            next.1,
            last_off old w.choose_values.new.made.items w.pop.new.self.items
                (n, v) w.choose_values.new.made.len (w.in_ok-choose_values.ensures.made ∙ grown)
                w.choose_values.new.made.ok.0 w.pop.ensures.rest,
          )
      | else-put w ↦
          let values = value_choices s.values.now (drop 1 c.args.rest.now) in
          let nothing : from (old ++ (n, v) ∷ []) ≡ [] = subst (λ (q : Bindings). from (q ++ (n, v) ∷ []) ≡ []) same
          (c.in_ok-put.ensures.closed w.if-put.false values) in
          let kept : c.put_open_pair.new.made.items ≡ old = c.in_ok-put.ensures.made
          ∙ (λ i. if w.if-put.false i then same i ++ (n, v) ∷ [] else same i) in
          let next = item_cut s.most (λ (u : Term). from (old ++ (n, u) ∷ []))
          c.loop-v.found.items s.values.now c.loop-v.v-index Nil _ c.loop-v-test.true nothing c.loop-v.invariant.1
          c.loop-v.invariant.0 in
          rw (w.found-is, w.made-is) (next.0, next.1, kept)
    ]

pub returns-clause-found : goal.returns-clause-found
returns-clause-found t c =
    let s = c.args.search.now in
    let some : 0 < length c.args.rest.now = grind (arith, nat_tests, sym c.is_empty.ensures ∙ c.if-is_empty.false) in
    items_done s.most (λ (u : Term). by_pairs s.bud.now s.companion.now s.target s.variables c.args.places.now
    (c.args.made.now.items ++ (get_or c.args.rest.now 0 0, u) ∷ [])
    (value_choices s.values.now (drop 1 c.args.rest.now)))
    c.loop-v.found.items s.values.now c.loop-v.v-index _ c.loop-v-test.false c.loop-v.invariant.1
    c.loop-v.invariant.0
    ∙ ap (λ (zs : List Link). take s.most (c.args.found.now.items ++ zs))
    (pairs_all s.bud.now s.companion.now s.target s.variables c.args.places.now c.args.made.now.items s.values.now
    c.args.rest.now some)

pub returns-then-is_empty-clause-found : goal.returns-then-is_empty-clause-found
returns-then-is_empty-clause-found t c =
    let s = c.args.search.now in
    let none : length c.args.rest.now ≡ 0 = grind (arith, nat_tests, sym c.is_empty.ensures ∙ c.if-is_empty.true) in
    let done : by_entries s.bud.now s.companion.now s.target s.variables c.args.places.now c.deref.result.now []
    (number_choices (disjuncts s.bud.now) (disjuncts s.companion.now))
    ≡ by_pairs s.bud.now s.companion.now s.target s.variables c.args.places.now c.args.made.now.items
    (value_choices s.values.now c.args.rest.now) =
    ap (λ (q : Bindings). by_entries s.bud.now s.companion.now s.target s.variables c.args.places.now q []
    (number_choices (disjuncts s.bud.now) (disjuncts s.companion.now))) c.deref.ensures.value
    ∙ pairs_end s.bud.now s.companion.now s.target s.variables c.args.places.now c.args.made.now.items
    ∙ ap (λ (ns : List ℕ). by_pairs s.bud.now s.companion.now s.target s.variables c.args.places.now
    c.args.made.now.items (value_choices s.values.now ns)) (sym (nil_from_length c.args.rest.now none)) in
    subst (λ (zs : List Link). OnOk c.choose_covers.result
    (c.choose_covers.new.found.items ≡ take s.most (c.args.found.now.items ++ zs))) done c.choose_covers.ensures
