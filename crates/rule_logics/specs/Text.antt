-- How the texts of a logic of rules are made.
use Rattle.std.specs.Prelude.{ℕ, List}
use Rattle.cyc_lex.specs.Word.{Word}
use Rattle.cyc_grammar.specs.Syntax.{Reading}

-- of judgements, rules and faults
pub record TextValue (J R F : Type 0) : Type 0 where
  -- the word with which a proof begins, and what a judgement is called
  pub title : List ℕ
  pub kind : List ℕ
  -- what words are read as
  pub judgement : List Word → Reading J
  pub rule : List Word → Reading R
  -- how many premises a rule may have beside one
  pub more : ℕ
  -- the name of a rule's fault
  pub fault : F → List ℕ
