use Rattle.std.proofs.Common.{arith, ◌≡◌, Some, slice_get, sym, ap, length, ◌∙◌}
use Rattle.std.proofs.lemmas.List.{length-map}
use Rattle.std.proofs.lemmas.Option.{slice_get-map, slice_get-get_or}
use Rattle.std.specs.Option.{option_map}
use Rattle.heap_reader.specs.Trees.{heading_of}
use Rattle.heap_reader.proofs.Indexes.{led, found_arity, found_within, missing}
use Rattle.heap_reader.proofs.head.Heads.arity_of.Goals as goal

pub returns-in_err-place : goal.returns-in_err-place
returns-in_err-place c =
    c.from_residual.ensures
    ∙ sym (missing c.args.self.now c.args.name.now
    (led _ c.args.self.now c.self.inside.places.entries c.args.name.now _ c.self.invariant c.self.view_is
    c.in_err-place.ensures.value)).1

pub index-requires : goal.index-requires
index-requires c =
    let within = found_within c.args.self.now c.args.name.now c.in_ok-place.place.now
    (led _ c.args.self.now c.self.inside.places.entries c.args.name.now _ c.self.invariant c.self.view_is
    c.in_ok-place.ensures.value) in
    omega (arith, within, length-map c.self.inside.list.items heading_of, ap length c.self.view_is)

pub returns : goal.returns
returns c =
    let i = c.in_ok-place.place.now in
    let led_to = led _ c.args.self.now c.self.inside.places.entries c.args.name.now _ c.self.invariant c.self.view_is
    c.in_ok-place.ensures.value in
    let within = found_within c.args.self.now c.args.name.now i led_to in
    let there : slice_get c.self.inside.list.items i ≡ Some c.index.result.now =
    slice_get-get_or c.self.inside.list.items i c.index.result.now
    (omega (arith, within, length-map c.self.inside.list.items heading_of, ap length c.self.view_is))
    ∙ ap Some (sym c.index.ensures) in
    let heading : slice_get c.args.self.now i ≡ Some (heading_of c.index.result.now) =
    ap (λ hs. slice_get hs i) (sym c.self.view_is) ∙ slice_get-map heading_of c.self.inside.list.items i
    ∙ ap (option_map heading_of) there in
    sym (found_arity c.args.self.now c.args.name.now i (heading_of c.index.result.now) led_to heading)
