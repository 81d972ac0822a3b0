use Rattle.std.proofs.Common.{◌≡◌, List, None, map, sym, subst, arith}
use Rattle.std.proofs.lemmas.List.{length-map}
use Rattle.goto_lang.specs.Faults.{program_fault}
use Rattle.heap_syntax.specs.declared.version.Version.{Version}
use Rattle.heap_syntax.specs.Versions.{limits}
use Rattle.heap_syntax.specs.NumberedEnds.{ends}
use Rattle.heap_reader.specs.EndFlaws.{stops_at}
use Rattle.heap_reader.specs.EndValues.{end_value, lines_with_ends}
use Rattle.heap_reader.specs.LineValues.{line_value, variable_value}
use Rattle.heap_reader.specs.Trees.{Heading}
use Rattle.heap_reader.specs.declared.definitions.scope.Scope.TheVariants.{End as InEnd}
use Rattle.heap_reader.proofs.EndFitting.{ends_pass, ended_program}
use Rattle.heap_reader.proofs.Fitting.{most_fits}
use Rattle.heap_reader.proofs.NumberedEnds.{numbered_ends_some, end_bounded}
use Rattle.heap_reader.proofs.Programs.{lines_are_program}
use Rattle.proof_syntax.specs.Trees.{Definition, Line, End, definition_of, end_of}
use Rattle.proof_file.specs.Building.{front_of}
use Rattle.proof_file.specs.Flaws.{headings, term_flaw, variable_flaw, first_line, first_end, file_flaw}
use Rattle.proof_file.specs.Small.{IsSmallFile}
use Rattle.proof_file.specs.Spans.{term_span, variable_span}
use Rattle.proof_file.specs.Values.{term_value}
use Rattle.proof_file.proofs.Fitting.{variable_few, file_parts, file_small, few_heads}
use Rattle.proof_file.proofs.building.front_values.Goals as goal

small_front : (version : Version) (ds : List Definition) (ls : List Line) (es : List End) → (ends version).fits es
    → file_flaw (front_of version ds ls es) ≡ None → IsSmallFile (front_of version ds ls es)
small_front version ds ls es fits none =
    file_small (front_of version ds ls es) (numbered_ends_some version es fits) tt none

pub definition_values-requires-clause-small : goal.definition_values-requires-clause-small
definition_values-requires-clause-small c =
    (small_front c.args.version (map definition_of c.args.definitions.now) c.args.lines.now (map end_of c.args.ends.now)
    c.requires.fits c.requires.right).definitions

pub definition_values-requires-clause-few : goal.definition_values-requires-clause-few
definition_values-requires-clause-few c =
    let ds = map definition_of c.args.definitions.now in
    let es = map end_of c.args.ends.now in
    few_heads c.args.heads.now (front_of c.args.version ds c.args.lines.now es) c.requires.known
    (small_front c.args.version ds c.args.lines.now es c.requires.fits c.requires.right).few

pub from_vec-defs-requires-clause-few : goal.from_vec-defs-requires-clause-few
from_vec-defs-requires-clause-few c =
    let small = small_front c.args.version (map definition_of c.args.definitions.now) c.args.lines.now
    (map end_of c.args.ends.now) c.requires.fits c.requires.right in
    omega (arith, small.few, length-map c.args.definitions.now definition_of, c.in_ok-values.ensures.size)

pub program-requires : goal.program-requires
program-requires c =
    let version = c.args.version in
    let ds = map definition_of c.args.definitions.now in
    let ls = c.args.lines.now in
    let es = map end_of c.args.ends.now in
    let f = front_of version ds ls es in
    let small = small_front version ds ls es c.requires.fits c.requires.right in
    let parts = file_parts f c.requires.right in
    let lines = lines_are_program variable_flaw variable_span variable_value variable_few (limits version)
    (most_fits version) (first_line f) ls parts.1 in
    let pass = ends_pass (term_flaw InEnd) term_span term_value end_bounded (limits version) (headings ds)
    (stops_at ls) 0 (first_end f) es parts.2 in
    record {
      lines = lines;
      ends = subst (λ (hs : List Heading). program_fault (lines_with_ends 0 (map (line_value variable_value) ls)
          (map (end_value term_value hs) es)) ≡ None) (sym c.requires.known)
          (ended_program (map (line_value variable_value) ls) (map (end_value term_value (headings ds)) es) pass lines);
      small = small.ends;
      few = few_heads c.args.heads.now f c.requires.known small.few;
    }
