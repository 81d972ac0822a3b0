use Rattle.std.proofs.Common.{◌≡◌, ℕ, false, ◌<◌, ◌≤◌, ◌++◌, ◌∷◌, [], List, length, take, drop, sym, ap, ◌∙◌, subst}
use Rattle.heap_formula.specs.Symbolic.{SymbolicHeap}
use Rattle.heap_formula.specs.Substitution.{apply_heap}
use Rattle.heap_formula.specs.declared.proof_rules.Link.{Link}
use Rattle.std.specs.Prelude.{slice_get, get_or}
use Rattle.rule_table.specs.Answer.{disjuncts}
use Rattle.rule_table.specs.LinkTable.{covers_some}
use Rattle.back_links.specs.Listing.{number_choices}
use Rattle.back_links.proofs.Selecting.{number_next, number_cut, numbers_done}
use Rattle.back_links.proofs.Cuts.{entries_from, entries_all, entry_cut}
use Rattle.back_links.proofs.listing.+choose_entries.Goals.{
  then-covers_at+in_ok-longer+in_ok-choose_entries,
  else-covers_at,
}
use Rattle.back_links.proofs.listing.+choose_entries.Goals as goal

pub loop-m-preserved : goal.loop-m-preserved
loop-m-preserved t c =
    let s = c.args.search.now in
    let from = entries_from s.bud.now s.companion.now s.target s.variables c.args.places.now c.args.subst.now in
    let below : c.loop-m.m < length (disjuncts s.bud.now) = subst (λ (bs : List SymbolicHeap). c.loop-m.m < length bs)
    c.disjuncts-bs.ensures.value c.loop-m-test.true in
    let within : length c.args.made.now < length (disjuncts s.companion.now) = subst
    (λ (cs : List SymbolicHeap). length c.args.made.now < length cs) c.disjuncts-cs.ensures.value c.if-made-cs.false
    in
    elim c.if-covers_at.branch [
      | then-covers_at+in_ok-longer+in_ok-choose_entries w ↦
          let longer : w.deref.result.now ≡ c.args.made.now ++ c.loop-m.m ∷ [] = w.deref.ensures.value
          ∙ w.in_ok-longer.ensures in
          rw w.found-is (number_next s.most (λ (m : ℕ). from (c.args.made.now ++ m ∷ []))
          w.choose_entries.new.found.items c.loop-m.found.items c.loop-m.m (length (disjuncts s.bud.now)) _ below
          (w.in_ok-choose_entries.ensures ∙ ap (λ (ks : List ℕ). take s.most (c.loop-m.found.items ++ from ks))
          longer) c.loop-m.invariant.0)
      | else-covers_at w ↦
          let at = subst (λ (cs : List SymbolicHeap). get_or cs (length c.args.made.now) c.index-cs-made.result
          ≡ c.index-cs-made.result) c.disjuncts-cs.ensures.value (sym c.index-cs-made.is) in
          let no_cover = subst (λ (bs : List SymbolicHeap). covers_some
          (apply_heap c.args.subst.now c.index-cs-made.result) (slice_get bs c.loop-m.m) ≡ false)
          c.disjuncts-bs.ensures.value (sym c.covers_at.ensures ∙ w.if-covers_at.false) in
          rw w.found-is (number_cut s.most (λ (m : ℕ). from (c.args.made.now ++ m ∷ [])) c.loop-m.found.items c.loop-m.m
          (length (disjuncts s.bud.now)) _ below
          (entry_cut s.bud.now s.companion.now s.target s.variables c.args.places.now c.args.subst.now
          c.args.made.now c.loop-m.m c.index-cs-made.result
          (number_choices (disjuncts s.bud.now) (drop (length (c.args.made.now ++ c.loop-m.m ∷ []))
          (disjuncts s.companion.now))) within at no_cover) c.loop-m.invariant.1 c.loop-m.invariant.0)
    ]

pub returns : goal.returns
returns t c =
    let s = c.args.search.now in
    let from = entries_from s.bud.now s.companion.now s.target s.variables c.args.places.now c.args.subst.now in
    let past : length (disjuncts s.bud.now) ≤ c.loop-m.m = subst (λ (bs : List SymbolicHeap). length bs ≤ c.loop-m.m)
    c.disjuncts-bs.ensures.value c.loop-m-test.false in
    let within : length c.args.made.now < length (disjuncts s.companion.now) = subst
    (λ (cs : List SymbolicHeap). length c.args.made.now < length cs) c.disjuncts-cs.ensures.value c.if-made-cs.false
    in
    numbers_done s.most (λ (m : ℕ). from (c.args.made.now ++ m ∷ [])) c.loop-m.found.items c.loop-m.m
    (length (disjuncts s.bud.now)) _ past c.loop-m.invariant.1 c.loop-m.invariant.0
    ∙ ap (λ (zs : List Link). take s.most (c.args.found.now.items ++ zs))
    (entries_all s.bud.now s.companion.now s.target s.variables c.args.places.now c.args.subst.now c.args.made.now
    (record { pure = []; spatial = [] }) within)
