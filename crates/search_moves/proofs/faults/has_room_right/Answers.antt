use Rattle.std.proofs.Common.{◌≡◌, true, ◌∷◌, [], List, length, Some, sym, ap, ◌∙◌, subst, arith}
use Rattle.std.specs.Prelude.{slice_get}
use Rattle.heap_formula.specs.Meaning.{cases_of}
use Rattle.heap_formula.specs.Symbolic.{SymbolicHeap}
use Rattle.heap_formula.specs.declared.atoms.Spatial.{Spatial}
use Rattle.heap_formula.specs.declared.atoms.Spatial.TheVariants.{Pred}
use Rattle.search_moves.specs.Rooms.{has_room_for}
use Rattle.search_moves.proofs.CaseNumbers.{room_goes, only_item}
use Rattle.search_moves.proofs.faults.has_room_right.Goals as goal

pub returns : goal.returns
returns c = λ e.
    let one : length c.heaps.result.now ≡ 1 = omega (arith, c.in-len1.len_at_least, c.in-len1.len_below) in
    let single : c.in-Entail.bs ≡ c.b-item.result ∷ [] = sym c.heaps.ensures.value
    ∙ only_item c.heaps.result.now c.b-item.result (sym c.b-item.is) one in
    let at : slice_get c.b-item.result.spatial c.args.k
    ≡ Some (Pred c.in-Some-Pred.q c.in-Some-Pred.field-0-1) = c.in-Some-Pred.ensures
    ∙ ap (λ (x : Spatial). Some x) c.in-Some-Pred.field-0-is in
    let found : slice_get (cases_of c.args.defs.now.list c.in-Some-Pred.q) c.args.c
    ≡ Some c.in-Some.case.now = subst (λ (ds : List SymbolicHeap). slice_get ds c.args.c ≡ Some c.in-Some.case.now)
    c.cases.ensures c.in-Some.ensures in
    let room : has_room_for c.args.defs.now.most c.in-Entail.a c.b-item.result c.in-Some.case.now
    ≡ true = subst (λ n. has_room_for n c.in-Entail.a c.b-item.result c.in-Some.case.now ≡ true)
    c.most.ensures.value (sym c.has_room_for.ensures ∙ e) in
    room_goes c.args.defs.now.most c.args.defs.now.list c.args.judgement.now c.in-Entail.a c.in-Entail.bs
    c.b-item.result c.in-Some.case.now c.args.k c.in-Some-Pred.q c.args.c c.in-Some-Pred.field-0-1 c.in-Entail.is
    single at found room
