-- What is kept of a node has a text where the node has one.
use Rattle.std.proofs.Common.{ℕ, true, false, List}
use Rattle.std.specs.Prelude.{map}
use Rattle.heap_syntax.specs.declared.keep.Keep.TheVariants.{Beyond}
use Rattle.heap_syntax.proofs.FrontFits.{listed-fits, all-fit}
use Rattle.heap_syntax.proofs.DefinitionFrontFits.{heap-fits}
use Rattle.proof_syntax.specs.Keeping.{heap_front, heaps_front, entailment_front, judgement_front, reason_front}
use Rattle.proof_syntax.specs.Keeping.{node_front}
use Rattle.proof_syntax.specs.Trees.{Heap, Entailment, Judgement, Entails, From, Reason, Absurd, Rewrite, Split}
use Rattle.proof_syntax.specs.Trees.{Distinct, Weaken, Unfold, Cut, Done, Choose, PureRight, Instantiate, Frame}
use Rattle.proof_syntax.specs.Trees.{UnfoldRight, Exec, Drop, Link, Node}
use Rattle.proof_syntax.specs.Grammar.{terms, heap, or_word, by_word, some_heap, disjuncts, entailment, state}
use Rattle.proof_syntax.specs.Grammar.{judgement, cut, parts, reason, node}

disjuncts-fit : (m : ℕ) (hs : List Heap) → disjuncts.fits hs → disjuncts.fits (heaps_front (Beyond m) hs)
unfolding disjuncts
disjuncts-fit m hs f =
    listed-fits m some_heap or_word by_word (heap (terms false)) (map (heap_front (Beyond m)) hs)
    (all-fit (heap_front (Beyond m)) some_heap or_word by_word (heap (terms false)) (heap-fits false m) hs f)

entailment-fits : (m : ℕ) (e : Entailment) → entailment.fits e → entailment.fits (entailment_front (Beyond m) e)
unfolding entailment
entailment-fits m e f = (tt, (heap-fits true m e.antecedent f.1.0, disjuncts-fit m e.disjuncts f.1.1))

state-fits : (m n : ℕ) (h : Heap) → state.fits (n, h) → state.fits (n, heap_front (Beyond m) h)
unfolding state
state-fits m n h f = (f.0, heap-fits true m h f.1)

judgement-fits : (m : ℕ) (j : Judgement) → judgement.fits j → judgement.fits (judgement_front (Beyond m) j)
unfolding judgement
judgement-fits m (Entails e) f = (tt, entailment-fits m e f.1)
judgement-fits m (From n h) f = (tt, state-fits m n h f.1)

cut-fits : (m : ℕ) (places : List ℕ) (h : Heap) → cut.fits (places, h) → cut.fits (places, heap_front (Beyond m) h)
unfolding cut
cut-fits m places h f = (f.0, heap-fits false m h f.1)

reason-fits : (m : ℕ) (r : Reason) → reason.fits r → reason.fits (reason_front (Beyond m) r)
unfolding reason parts
reason-fits m Absurd f = f
reason-fits m (Rewrite i s) f = f
reason-fits m (Split t u) f = f
reason-fits m (Distinct i j) f = f
reason-fits m (Weaken i) f = f
reason-fits m (Unfold i) f = f
reason-fits m (Cut places formula) f = (tt, (f.1.0, cut-fits m places formula f.1.1))
reason-fits m Done f = f
reason-fits m (Choose j) f = f
reason-fits m (PureRight i) f = f
reason-fits m (Instantiate v t) f = f
reason-fits m (Frame i j) f = f
reason-fits m (UnfoldRight j c) f = f
reason-fits m Exec f = f
reason-fits m (Drop i) f = f
reason-fits m (Link l) f = f

pub node-fits : (m : ℕ) (x : Node) → node.fits x → node.fits (node_front (Beyond m) x)
unfolding node
node-fits m x f = (tt, (judgement-fits m x.judgement f.1.0, (reason-fits m x.reason f.1.1.0, f.1.1.1)))
