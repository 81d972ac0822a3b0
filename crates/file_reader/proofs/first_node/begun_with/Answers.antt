use Rattle.std.proofs.Common.{◌≡◌, ◌-◌, [], length, map, refl, sym, ◌∙◌, arith}
use Rattle.std.proofs.lemmas.List.{length-map, length-take-le}
use Rattle.cyc_lex.specs.Cutting.{cut_text}
use Rattle.cyc_lex.specs.Word.{word_of}
use Rattle.proof_file.specs.Flaws.{file_flaw}
use Rattle.file_reader.specs.declared.known.Found.{Found}
use Rattle.file_reader.specs.Steps.{tree_of}
use Rattle.file_reader.specs.Stretches.{tokens_of}
use Rattle.file_reader.specs.Fronts.{front_defs, front_ends}
use Rattle.file_reader.proofs.FrontLaws.{begun-fits, begun-span, begun-size, begun-ends, begun-few}
use Rattle.file_reader.proofs.BeginLaws.{told-none, begins}
use Rattle.file_reader.proofs.first_node.begun_with.Goals as goal

pub open-requires-clause-within : goal.open-requires-clause-within
open-requires-clause-within c = begun-size (map word_of (tokens_of c.args.stretch))
    c.args.front.now c.args.cursor.now c.requires.read

pub open-requires-clause-fits : goal.open-requires-clause-fits
open-requires-clause-fits c = begun-ends (map word_of (tokens_of c.args.stretch))
    c.args.front.now c.args.cursor.now c.requires.read

pub add_node-requires-clause-few : goal.add_node-requires-clause-few
add_node-requires-clause-few c none =
    let f = c.args.front.now in
    let ts = tokens_of c.args.stretch in
    begun-few (map word_of ts) f c.args.cursor.now c.requires.read c.args.heads.now c.requires.known
    (told-none ts (file_flaw (tree_of f.version (front_defs f) f.lines.items (front_ends f) []))
    (sym c.in_ok-beginning.ensures.flaw ∙ none))

pub add_node-requires-clause-fits : goal.add_node-requires-clause-fits
add_node-requires-clause-fits c = begun-fits (map word_of (tokens_of c.args.stretch))
    c.args.front.now c.args.cursor.now c.requires.read

pub add_node-requires-clause-within : goal.add_node-requires-clause-within
add_node-requires-clause-within c =
    let s = c.args.stretch in
    let ts = tokens_of s in
    omega (
      arith,
      begun-span (map word_of ts) c.args.front.now c.args.cursor.now c.requires.read,
      length-map ts word_of,
      length-take-le s.count (cut_text s.place s.comment s.text.now) c.requires.stretch.within,
      c.in_ok-beginning.ensures.opened.tokens,
    )

pub returns : goal.returns
returns c =
    let s = c.args.stretch in
    let ts = tokens_of s in
    let f = c.args.front.now in
    let rest = c.args.cursor.now in
    let new = c.add_node.new.found in
    let last : Found = record {
      flaw = new.flaw;
      nodes = new.nodes;
      tokens = s.count - c.left.result;
      ended = new.ended;
    } in
    let count : s.count - c.left.result ≡ length ts - length rest = omega (
      arith,
      c.left.ensures,
      length-take-le s.count (cut_text s.place s.comment s.text.now)
          c.requires.stretch.within,
    ) in
    begins ts f rest c.requires.read c.in_ok-beginning.beginning c.in_ok-beginning.ensures c.args.heads.now
    c.requires.known s.before c.requires.first new c.in_ok-add_node.ensures last refl refl count refl
