-- The texts of judgements and proofs: what a list of words is read as. A reading tells a value and the words that are
-- left, or how many words are left from the first dead one on.
use Rattle.std.specs.Prelude.{ℕ, zero, suc, Bool, if◌then◌else◌, List, [], ◌∷◌, length, codes, Ok}
use Rattle.cyc_lex.specs.Word.{Word}
use Rattle.cyc_grammar.specs.Syntax.{Reading, ◌>>=◌, Syntax, read_class, read_many, is_one, begins, never}
use Rattle.cyc_grammar.specs.Classes.{symbol, keyword, number, the_end}
use Rattle.logics.specs.declared.node.ProofNode.{ProofNode}
use Rattle.rule_logics.specs.declared.reasons.Reason.{Reason}
use Rattle.rule_logics.specs.declared.reasons.Reason.TheVariants.{Rule, Link}
use Rattle.rule_logics.specs.Text.{TextValue}

-- at most so many numbers
abbrev pub read_more : ℕ → List Word → Reading (List ℕ)
read_more zero ts = Ok ([], ts)
read_more (suc n) ts = if begins (is_one number) ts then
    (read_class number ts >>= λ m. read_more n m.1 >>= λ ns. Ok (m.0 ∷ ns.0, ns.1)) else Ok ([], ts)

-- whether a node begins here
abbrev pub node_word : Word → Bool
node_word = is_one (keyword (codes "node"))

-- to the end of the text
abbrev pub ended : {A : Type 0} → Reading A → Reading A
ended r = r >>= λ x. read_class the_end x.1 >>= λ e. Ok (x.0, e.1)

module _ {J R F : Type 0} (x : TextValue J R F) where
  abbrev pub FileNode : Type 0
  FileNode = ProofNode J (Reason R)

  abbrev pub read_reason : List Word → Reading (Reason R)
  read_reason ts =
      if begins (is_one (keyword (codes "Link"))) ts then
      (read_class (keyword (codes "Link")) ts >>= λ k. read_class number k.1 >>= λ n. Ok (Link n.0, n.1))
      else (x.rule ts >>= λ r. Ok (Rule r.0, r.1))

  -- no number, or some after `to`
  abbrev pub read_numbers : List Word → Reading (List ℕ)
  read_numbers ts =
      if begins (is_one (keyword (codes "to"))) ts then
      (read_class (keyword (codes "to")) ts >>= λ k. read_class number k.1 >>= λ m. read_more x.more m.1 >>= λ ns.
      Ok (m.0 ∷ ns.0, ns.1)) else Ok ([], ts)

  abbrev pub read_node : List Word → Reading FileNode
  read_node ts =
      read_class (keyword (codes "node")) ts >>= λ a. x.judgement a.1 >>= λ s.
      read_class (keyword (codes "by")) s.1 >>= λ b. read_reason b.1 >>= λ r.
      read_numbers r.1 >>= λ u. read_class (symbol (codes ";")) u.1 >>= λ c.
      Ok (record { judgement = s.0; reason = r.0; premises = u.0 }, c.1)

  -- a node, of whose grammar only the reading is used
  abbrev pub node : Syntax FileNode
  node = record { words = λ n. []; read = read_node; more = λ n. never; fits = λ n. Unit {0} }

  abbrev pub read_nodes : List Word → Reading (List FileNode)
  read_nodes ts = read_many node_word node (length ts) ts

  abbrev pub read_file : List Word → Reading (List FileNode)
  read_file ts =
      read_class (keyword x.title) ts >>= λ a. read_class (keyword (codes "proof")) a.1 >>= λ b.
      read_class (symbol (codes ";")) b.1 >>= λ c.
      read_nodes c.1 >>= λ ns. read_class (keyword (codes "end")) ns.1 >>= λ d.
      read_class (symbol (codes ";")) d.1 >>= λ e. Ok (ns.0, e.1)

  abbrev pub read_problem : List Word → Reading J
  read_problem ts = ended (x.judgement ts)

  abbrev pub read_proof : List Word → Reading (List FileNode)
  read_proof ts = ended (read_file ts)
