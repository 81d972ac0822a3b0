use Rattle.std.proofs.Common.{◌<◌, ℕ, List, length, ap, sym, subst, refl, arith}
use Rattle.std.proofs.lemmas.List.{length-map}
use Rattle.cyc_lex.specs.Placed.{Placed, placed}
use Rattle.cyc_grammar.specs.Faults.{StandsAt}
use Rattle.heap_reader.specs.declared.flaw.Item.{Item}
use Rattle.heap_reader.specs.declared.flaw.Item.TheVariants.{Ill, Over}
use Rattle.heap_reader.specs.Told.{item_fault, IsFlawTold}
use Rattle.heap_reader.proofs.TokenPlaces.{token_at}
use Rattle.heap_reader.proofs.told.flaw_fault.Goals as goal

told : (ts : List Placed) (item : Item) (token line column : ℕ) → StandsAt ts token line column
    → IsFlawTold ts (record { item = item; token = token }) (item_fault item token line column)
told ts (Ill fault) token line column here = (refl, here)
told ts (Over what) token line column here = (refl, here)

pub returns : goal.returns
returns c =
    let within : c.args.flaw.token < length c.as_slice-all.result.now = omega
    (arith, c.requires.there, ap length c.as_slice-all.ensures, length-map c.as_slice-all.result.now placed) in
    let here = token_at c.as_slice-all.result.now c.args.tokens.now c.args.flaw.token _ c.as_slice-all.ensures within in
    subst (IsFlawTold c.args.tokens.now c.args.flaw) (sym c.fault_at.ensures)
    (told c.args.tokens.now c.args.flaw.item c.args.flaw.token _ _ here)
