use Rattle.std.proofs.Common.{◌≡◌, ◌+◌, ◌-◌, ℕ, List, [], get_or, length, refl, sym, ap, ◌∙◌, arith}
use Rattle.std.specs.Prelude.{map}
use Rattle.std.proofs.lemmas.List.{length-map}
use Rattle.fo_syntax.specs.Trees.{sign_of}
use Rattle.fo_syntax.specs.Places.{places_of, tokens_in}
use Rattle.fo_syntax.proofs.PlaceLaws.{places-count, places-room}
use Rattle.fo_file.specs.AtomFlaws.{signs_flaw}
use Rattle.fo_file.proofs.Walks.{room-more, last-place}
use Rattle.fo_file.proofs.walk.term_walk.walk_term.Goals as goal

pub walk_signs-requires-clause-each : goal.walk_signs-requires-clause-each
walk_signs-requires-clause-each c =
    let t = map sign_of c.args.signs.now in
    omega (
      arith,
      ap length c.deref.ensures.value,
      ap length c.in_ok-places.ensures,
      places-count t c.requires.is,
      length-map c.args.signs.now sign_of,
    )

pub walk_signs-requires-clause-room : goal.walk_signs-requires-clause-room
walk_signs-requires-clause-room c =
    let t = map sign_of c.args.signs.now in
    rw (c.deref.ensures.value, c.in_ok-places.ensures)
    (room-more (tokens_in t) (18446744073709551616 - (c.args.from.token + 1)) (places_of t)
    (omega (arith, c.requires.tokens)) (places-room t c.requires.is))

pub index-requires : goal.index-requires
index-requires c =
    let t = map sign_of c.args.signs.now in
    omega (
      arith,
      c.deref.ensures.len,
      ap length c.deref.ensures.value,
      ap length c.in_ok-places.ensures,
      places-count t c.requires.is,
      length-map c.args.signs.now sign_of,
    )

pub overflow_add-result : goal.overflow_add-result
overflow_add-result c =
    let t = map sign_of c.args.signs.now in
    let end : c.index.result.now ≡ tokens_in t = c.index.ensures
    ∙ ap (λ (ps : List ℕ). get_or ps (length c.args.signs.now) c.index.result.now) c.in_ok-places.ensures
    ∙ ap (λ j. get_or (places_of t) j c.index.result.now) (sym (length-map c.args.signs.now sign_of))
    ∙ last-place t c.index.result.now c.requires.is in
    omega (arith, end, c.requires.tokens)

pub returns-in-Ok : goal.returns-in-Ok
returns-in-Ok c =
    let t = map sign_of c.args.signs.now in
    let end : c.index.result.now ≡ tokens_in t = c.index.ensures
    ∙ ap (λ (ps : List ℕ). get_or ps (length c.args.signs.now) c.index.result.now) c.in_ok-places.ensures
    ∙ ap (λ j. get_or (places_of t) j c.index.result.now) (sym (length-map c.args.signs.now sign_of))
    ∙ last-place t c.index.result.now c.requires.is in
    let same : c.deref.result.now ≡ places_of t = c.deref.ensures.value ∙ c.in_ok-places.ensures in (
      sym (ap (signs_flaw c.args.names.now c.args.scope [] c.args.from.terms c.args.from.token c.args.limit t) same)
          ∙ c.in-Ok.ensures,
      (ap (λ j. c.args.from.token + j) end, refl),
    )
