-- Where there is a flaw, nothing else of what the statements so far say matters.
use Rattle.std.proofs.Common.{◌≡◌, ℕ, Bool, List, Option, Some, None, Result, Ok, Err, refl, sym, ap, ◌∙◌}
use Rattle.std.specs.Prelude.{map}
use Rattle.cyc_lex.specs.Placed.{Placed}
use Rattle.cyc_lex.specs.Word.{word_of}
use Rattle.cyc_lex.specs.declared.fault.ReadFault.{ReadFault}
use Rattle.heap_syntax.specs.Versions.{limits}
use Rattle.proof_syntax.specs.Trees.{Node}
use Rattle.file_reader.specs.Outcomes.{Outcome, Faulty, or_else, settled, syntax_fault}
use Rattle.file_reader.specs.Stages.{Begun, Nodes, nodes_fault, said_with, nodes_left, nodes_outcome, ahead}

-- what all comes to, where a flaw came
abbrev flawed : ReadFault → ℕ → List Placed → Result (List Node) ℕ → Outcome
flawed flaw before us (Err left) = Faulty (syntax_fault before us left)
flawed flaw before us (Ok xs) = Faulty flaw

with-flaw : (b : Begun) (flaw : ReadFault) (us : List Placed) (q : Result (List Node) ℕ) → b.flaw ≡ Some flaw
    → nodes_outcome b us q ≡ flawed flaw b.tokens us q
with-flaw b flaw us (Err left) is = refl
with-flaw b flaw us (Ok xs) is = ap (λ (o : Option ReadFault). settled
    (or_else o (nodes_fault (limits b.version) b.headings b.lines b.count b.tokens us xs)) (said_with b xs)) is

-- the flaw, the number of tokens and whether "end;" came; and all of it where there is no flaw
pub begun-same : (b c : Begun) → b.flaw ≡ c.flaw → b.tokens ≡ c.tokens → b.ended ≡ c.ended → (c.flaw ≡ None → b ≡ c)
    → (us : List Placed) → ahead (Nodes b) us ≡ ahead (Nodes c) us
begun-same b c flaw tokens ended same us = by c.flaw refl
  where
    left : Bool → Result (List Node) ℕ
    left e = nodes_left e (map word_of us)

    by : (o : Option ReadFault) → c.flaw ≡ o → ahead (Nodes b) us ≡ ahead (Nodes c) us
    by None is = ap (λ (x : Begun). ahead (Nodes x) us) (same is)
    by (Some fault) is =
        with-flaw b fault us (left b.ended) (flaw ∙ is)
        ∙ (λ i. flawed fault (tokens i) us (left (ended i)))
        ∙ sym (with-flaw c fault us (left c.ended) is)
