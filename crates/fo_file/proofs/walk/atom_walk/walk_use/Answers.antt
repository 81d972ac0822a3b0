use Rattle.std.proofs.Common.{◌≡◌, ◌+◌, ◌-◌, None, ◌∷◌, ℕ, List, get_or, drop, take, length, refl, sym, ap, ◌∙◌, arith}
use Rattle.std.specs.Prelude.{map}
use Rattle.std.proofs.lemmas.List.{length-map}
use Rattle.heap_reader.specs.Flaws.{or_later, arity_in, use_flaw}
use Rattle.fo_syntax.specs.Trees.{Apply, sign_of}
use Rattle.fo_syntax.specs.Grammar.{IsTerm}
use Rattle.fo_syntax.specs.Places.{places_of, tokens_in}
use Rattle.fo_syntax.proofs.PlaceLaws.{places-count, places-room}
use Rattle.fo_file.specs.Arguments.{numbers}
use Rattle.fo_file.specs.AtomFlaws.{signs_flaw}
use Rattle.fo_file.proofs.Walks.{room-more, last-place, tail-of, length-tail, room-tail, one-term}
use Rattle.fo_file.proofs.walk.atom_walk.walk_use.Goals as goal

pub bounds-places-others : goal.bounds-places-others
bounds-places-others c =
    let t = Apply c.args.name.now c.args.arguments ∷ map sign_of c.args.others.now in
    let is : IsTerm t = one-term c.args.name.now c.args.arguments (map sign_of c.args.others.now) c.requires.is in
    omega (arith, ap length c.requires.places, places-count t is, length-map c.args.others.now sign_of)

pub check_predicate-requires-clause-each : goal.check_predicate-requires-clause-each
check_predicate-requires-clause-each c =
    let t = Apply c.args.name.now c.args.arguments ∷ map sign_of c.args.others.now in
    let is : IsTerm t = one-term c.args.name.now c.args.arguments (map sign_of c.args.others.now) c.requires.is in
    rw (tail-of c.args.places.now) (omega (
      arith,
      ap length c.requires.places,
      places-count t is,
      length-map c.args.others.now sign_of,
      length-tail c.args.places.now,
    ))

pub check_predicate-requires-clause-room : goal.check_predicate-requires-clause-room
check_predicate-requires-clause-room c =
    let t = Apply c.args.name.now c.args.arguments ∷ map sign_of c.args.others.now in
    let is : IsTerm t = one-term c.args.name.now c.args.arguments (map sign_of c.args.others.now) c.requires.is in
    rw (tail-of c.args.places.now, c.requires.places)
    (room-tail (18446744073709551616 - (c.args.from.token + 1)) (places_of t)
    (room-more (tokens_in t) (18446744073709551616 - (c.args.from.token + 1)) (places_of t)
    (omega (arith, c.requires.tokens)) (places-room t is)))

pub overflow_add-result : goal.overflow_add-result
overflow_add-result c =
    let t = Apply c.args.name.now c.args.arguments ∷ map sign_of c.args.others.now in
    let is : IsTerm t = one-term c.args.name.now c.args.arguments (map sign_of c.args.others.now) c.requires.is in
    let count : length c.args.others.now + 1 ≡ length t = omega (arith, length-map c.args.others.now sign_of) in
    let end : get_or c.args.places.now (length c.args.others.now + 1) 0
    ≡ tokens_in t = ap (λ (ps : List ℕ). get_or ps (length c.args.others.now + 1) 0) c.requires.places
    ∙ ap (λ j. get_or (places_of t) j 0) count ∙ last-place t 0 is in
    omega (arith, end, c.requires.tokens)

pub overflow_add-result-in-Ok : goal.overflow_add-result-in-Ok
overflow_add-result-in-Ok c =
    let t = Apply c.args.name.now c.args.arguments ∷ map sign_of c.args.others.now in
    let is : IsTerm t = one-term c.args.name.now c.args.arguments (map sign_of c.args.others.now) c.requires.is in
    let count : length c.args.others.now + 1 ≡ length t = omega (arith, length-map c.args.others.now sign_of) in
    let end : get_or c.args.places.now (length c.args.others.now + 1) 0
    ≡ tokens_in t = ap (λ (ps : List ℕ). get_or ps (length c.args.others.now + 1) 0) c.requires.places
    ∙ ap (λ j. get_or (places_of t) j 0) count ∙ last-place t 0 is in
    omega (arith, end, c.requires.tokens)

pub returns-in-Ok : goal.returns-in-Ok
returns-in-Ok c =
    let t = Apply c.args.name.now c.args.arguments ∷ map sign_of c.args.others.now in
    let is : IsTerm t = one-term c.args.name.now c.args.arguments (map sign_of c.args.others.now) c.requires.is in
    let count : length c.args.others.now + 1 ≡ length t = omega (arith, length-map c.args.others.now sign_of) in
    let end : get_or c.args.places.now (length c.args.others.now + 1) 0
    ≡ tokens_in t = ap (λ (ps : List ℕ). get_or ps (length c.args.others.now + 1) 0) c.requires.places
    ∙ ap (λ j. get_or (places_of t) j 0) count ∙ last-place t 0 is in
    let same : take (length c.args.places.now - 1) (drop 1 c.args.places.now)
    ≡ drop 1 (places_of t) = tail-of c.args.places.now ∙ ap (drop 1) c.requires.places in (
      sym (ap (λ (ps : List ℕ). or_later (use_flaw (arity_in c.args.predicates.now c.args.name.now)
          c.args.arguments c.args.from.token) (or_later c.args.limit
          (signs_flaw c.args.constructors.now c.args.scope (numbers c.args.arguments)
          c.args.from.terms c.args.from.token None (map sign_of c.args.others.now) ps))) same)
          ∙ c.in-Ok.ensures,
      (omega (arith, end), refl),
    )
