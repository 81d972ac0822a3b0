use Rattle.heap_reader.proofs.DefinitionFlaws.{definitions_flaw, definitions_whole}
use Rattle.heap_reader.proofs.EndFronts.{ends_same, ends_whole}
use Rattle.heap_reader.specs.EndFlaws.{stops_at}
use Rattle.heap_reader.specs.declared.definitions.scope.Scope.TheVariants.{End as InEnd}
use Rattle.proof_file.specs.Flaws.{term_flaw}
use Rattle.proof_file.specs.Spans.{term_span}
use Rattle.proof_file.proofs.NodeFlaws.{node_same, node_whole}
use Rattle.proof_file.proofs.fronts.flaws_show_in_what_is_kept.Goals as goal

pub returns-clause-definitions : goal.returns-clause-definitions
returns-clause-definitions c = λ most m enough hs. definitions_flaw most m enough.pure enough.spatial enough.cases hs

pub returns-clause-whole_definitions : goal.returns-clause-whole_definitions
returns-clause-whole_definitions c = λ most m enough hs.
    definitions_whole most m enough.pure enough.spatial enough.cases hs

pub returns-clause-ends : goal.returns-clause-ends
returns-clause-ends c = λ most m enough hs ls k es.
    ends_same (term_flaw InEnd) term_span most hs (stops_at ls) m enough.pure enough.spatial enough.disjuncts 0 k es

pub returns-clause-whole_ends : goal.returns-clause-whole_ends
returns-clause-whole_ends c = λ most m enough hs ls k es.
    ends_whole (term_flaw InEnd) term_span most hs (stops_at ls) m enough.pure enough.spatial enough.disjuncts 0 k es

pub returns-clause-node : goal.returns-clause-node
returns-clause-node c = λ most m enough hs. node_same most m enough.pure enough.spatial enough.disjuncts hs

pub returns-clause-whole_node : goal.returns-clause-whole_node
returns-clause-whole_node c = λ most m enough hs. node_whole most m enough.pure enough.spatial enough.disjuncts hs
