use Rattle.std.proofs.Common.{◌∙◌, ◌-◌, List, length, map, refl, sym, ap, subst, arith}
use Rattle.std.proofs.lemmas.List.{length-map}
use Rattle.cyc_lex.specs.Word.{Word, word_of}
use Rattle.cyc_lex.specs.Placed.{placed}
use Rattle.cyc_grammar.specs.Giving.{Fails}
use Rattle.heap_syntax.specs.DefinitionGrammar.{definition}
use Rattle.heap_syntax.specs.DefinitionTrees.{definition_of}
use Rattle.heap_reader.proofs.DefinitionLaw.{definition-inner}
use Rattle.heap_syntax.proofs.DefinitionLaws.{definition-law}
use Rattle.heap_reader.proofs.DefinitionSpanLaws.{definition_words}
use Rattle.heap_reader.specs.Items.{IsItem, definition_found, says_definition}
use Rattle.heap_reader.proofs.Parts.{part_within, part_fault, part_spelled, behind_fits}
use Rattle.heap_reader.proofs.items.reading.read_pred.Goals as goal

pub read_fault-requires-clause-within : goal.read_fault-requires-clause-within
read_fault-requires-clause-within c =
    let ts = c.args.tokens.now in
    let size = length-map ts word_of in
    part_within definition definition-law definition-inner (map word_of ts) c.args.place (length ts)
    c.in-Err.refusal c.requires.words (omega (arith, size, c.requires.there)) size
    (subst (λ (ws : List Word). Fails c.in-Err.refusal (definition.read ws))
    c.cursor_at-cursor.ensures c.in-Err.ensures)

pub returns-in-Err : goal.returns-in-Err
returns-in-Err c =
    let book = c.args.defs.now in
    part_fault definition definition-law definition-inner
    (λ tree. IsItem (definition_found book c.args.place tree) (says_definition book tree) definition_of tree)
    c.args.tokens.now c.args.place c.in-Err.refusal c.read_fault.result c.requires.words c.requires.there
    (subst (λ (ws : List Word). Fails c.in-Err.refusal (definition.read ws))
    c.cursor_at-cursor.ensures c.in-Err.ensures) c.read_fault.ensures

pub definition_item-requires : goal.definition_item-requires
definition_item-requires c =
    let ts = c.args.tokens.now in
    let tree = definition_of c.in-Ok.tree in
    let fits = behind_fits definition definition-law ts c.args.place tree c.definition.new.cursor
    (sym (ap definition.read c.cursor_at-cursor.ensures) ∙ c.in-Ok.ensures) c.requires.there in
    omega (arith, fits.1, definition_words tree fits.0, c.requires.few)

pub overflow_sub-behind : goal.overflow_sub-behind
overflow_sub-behind c =
    let ts = c.args.tokens.now in
    let tree = definition_of c.in-Ok.tree in
    let fits = behind_fits definition definition-law ts c.args.place tree c.definition.new.cursor
    (sym (ap definition.read c.cursor_at-cursor.ensures) ∙ c.in-Ok.ensures) c.requires.there in
    omega (arith, fits.2, ap length c.as_slice.ensures, length-map c.as_slice.result.now placed, c.left.ensures)

pub returns : goal.returns
returns c =
    let ts = c.args.tokens.now in
    let tree = definition_of c.in-Ok.tree in
    let count = length-map c.as_slice.result.now placed in
    let spelled = part_spelled definition definition-law ts c.args.place (length c.as_slice.result.now - c.left.result)
    (length c.as_slice.result.now) c.left.result tree c.definition.new.cursor
    (sym (ap definition.read c.cursor_at-cursor.ensures) ∙ c.in-Ok.ensures) c.requires.there
    (omega (arith, count, ap length c.as_slice.ensures)) c.left.ensures refl in
    (tree, spelled, c.in_ok-item.ensures)
