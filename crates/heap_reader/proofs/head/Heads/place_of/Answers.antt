use Rattle.std.proofs.Common.{arith, sym, ap, length}
use Rattle.std.proofs.lemmas.List.{length-map}
use Rattle.heap_reader.specs.Trees.{heading_of}
use Rattle.heap_reader.proofs.Indexes.{led, found_place, found_within, missing}
use Rattle.heap_reader.proofs.head.Heads.place_of.Goals as goal

pub returns-in-Some-clause-value : goal.returns-in-Some-clause-value
returns-in-Some-clause-value c =
    sym (found_place c.args.self.now c.args.name.now c.in-Some.place.now
    (led _ c.args.self.now c.self.inside.places.entries c.args.name.now _ c.self.invariant c.self.view_is
    c.in-Some.ensures.value))

pub returns-in-Some-clause-within : goal.returns-in-Some-clause-within
returns-in-Some-clause-within c =
    let within = found_within c.args.self.now c.args.name.now c.in-Some.place.now
    (led _ c.args.self.now c.self.inside.places.entries c.args.name.now _ c.self.invariant c.self.view_is
    c.in-Some.ensures.value) in
    omega (arith, within)

pub returns-in-None-clause-value : goal.returns-in-None-clause-value
returns-in-None-clause-value c =
    let there = missing c.args.self.now c.args.name.now
    (led _ c.args.self.now c.self.inside.places.entries c.args.name.now _ c.self.invariant c.self.view_is
    c.in-None.ensures.value) in
    omega (arith, c.len.ensures, length-map c.self.inside.list.items heading_of, ap length c.self.view_is, there.0)
