-- What is kept of nodes as they are read.
pub use Rattle.heap_syntax.specs.DefinitionKeeping.{heap_front, heaps_front, definition_front}
pub use Rattle.heap_syntax.specs.EndKeeping.{end_front}
use Rattle.heap_syntax.specs.declared.keep.Keep.{Keep}
use Rattle.proof_syntax.specs.Trees.{Entailment, Judgement, Entails, From, Reason, Absurd, Rewrite, Split, Distinct}
use Rattle.proof_syntax.specs.Trees.{Weaken, Unfold, Cut, Done, Choose, PureRight, Instantiate, Frame, UnfoldRight}
use Rattle.proof_syntax.specs.Trees.{Exec, Drop, Link, Node}

abbrev pub entailment_front : Keep → Entailment → Entailment
entailment_front k e = record { antecedent = heap_front k e.antecedent; disjuncts = heaps_front k e.disjuncts }

abbrev pub judgement_front : Keep → Judgement → Judgement
judgement_front k (Entails e) = Entails (entailment_front k e)
judgement_front k (From n h) = From n (heap_front k h)

abbrev pub reason_front : Keep → Reason → Reason
reason_front k Absurd = Absurd
reason_front k (Rewrite i s) = Rewrite i s
reason_front k (Split t u) = Split t u
reason_front k (Distinct i j) = Distinct i j
reason_front k (Weaken i) = Weaken i
reason_front k (Unfold i) = Unfold i
reason_front k (Cut positions formula) = Cut positions (heap_front k formula)
reason_front k Done = Done
reason_front k (Choose i) = Choose i
reason_front k (PureRight i) = PureRight i
reason_front k (Instantiate v t) = Instantiate v t
reason_front k (Frame i j) = Frame i j
reason_front k (UnfoldRight j c) = UnfoldRight j c
reason_front k Exec = Exec
reason_front k (Drop i) = Drop i
reason_front k (Link l) = Link l

abbrev pub node_front : Keep → Node → Node
node_front k n = record {
  judgement = judgement_front k n.judgement;
  reason = reason_front k n.reason;
  premises = n.premises;
}
