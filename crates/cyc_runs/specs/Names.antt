-- How faults and limits are named in the printed lines.
use Rattle.std.specs.Prelude.{ℕ, List, codes, Option, Some, None}
use Rattle.heap_formula.specs.declared.proof_rules.RuleFault.{RuleFault}
use Rattle.heap_formula.specs.declared.proof_rules.RuleFault.TheVariants.{NoSuchAtom, NotEquation, AtomsDiffer}
use Rattle.heap_formula.specs.declared.proof_rules.RuleFault.TheVariants.{NotSingle, HasExistential, NotFollowing}
use Rattle.heap_formula.specs.declared.proof_rules.RuleFault.TheVariants.{NotAbsurd, NotEmpty, NoSuchCase}
use Rattle.heap_formula.specs.declared.proof_rules.RuleFault.TheVariants.{WrongJudgement, NoCell, LineDiffers}
use Rattle.heap_formula.specs.declared.proof_rules.RuleFault.TheVariants.{LinkProgramVariable, LinkPure, LinkSpatial}
use Rattle.heap_formula.specs.declared.proof_rules.RuleFault.TheVariants.{LinkDisjunct, TooManyAtoms, NoFreshVariable}
use Rattle.heap_formula.specs.declared.proof_rules.RuleFault.TheVariants.{PremiseCount, PremiseDiffers, NoSuchNode}
use Rattle.cyc_lex.specs.declared.fault.IllFault.{IllFault}
use Rattle.cyc_lex.specs.declared.fault.IllFault.TheVariants.{Duplicate, Parameter, Unknown, Arity, Numbering, Jump}
use Rattle.cyc_lex.specs.declared.fault.IllFault.TheVariants.{FallsOff, NoLine, Address, Constant}
use Rattle.cyc_lex.specs.declared.fault.What.{What}
use Rattle.cyc_lex.specs.declared.fault.What.TheVariants.{Predicates, Arguments, Cases, Pure, Spatial, Locals}
use Rattle.cyc_lex.specs.declared.fault.What.TheVariants.{Disjuncts, Lines, ProgramVariables, Fields, Nodes, Variable}
use Rattle.cyc_lex.specs.declared.fault.What.TheVariants.{Stack, Cells, Constructors, Atoms, Terms}

-- a fault of a node
abbrev pub fault_name_of : RuleFault → List ℕ
fault_name_of NoSuchAtom = codes "NoSuchAtom"
fault_name_of NotEquation = codes "NotEquation"
fault_name_of AtomsDiffer = codes "AtomsDiffer"
fault_name_of NotSingle = codes "NotSingle"
fault_name_of HasExistential = codes "HasExistential"
fault_name_of NotFollowing = codes "NotFollowing"
fault_name_of NotAbsurd = codes "NotAbsurd"
fault_name_of NotEmpty = codes "NotEmpty"
fault_name_of NoSuchCase = codes "NoSuchCase"
fault_name_of WrongJudgement = codes "WrongJudgement"
fault_name_of NoCell = codes "NoCell"
fault_name_of LineDiffers = codes "LineDiffers"
fault_name_of LinkProgramVariable = codes "LinkProgramVariable"
fault_name_of (LinkPure k) = codes "LinkPure"
fault_name_of (LinkSpatial k) = codes "LinkSpatial"
fault_name_of (LinkDisjunct k) = codes "LinkDisjunct"
fault_name_of TooManyAtoms = codes "TooManyAtoms"
fault_name_of NoFreshVariable = codes "NoFreshVariable"
fault_name_of PremiseCount = codes "PremiseCount"
fault_name_of (PremiseDiffers i) = codes "PremiseDiffers"
fault_name_of NoSuchNode = codes "NoSuchNode"

-- the number that a fault of a node carries
abbrev pub fault_number_of : RuleFault → Option ℕ
fault_number_of (LinkPure k) = Some k
fault_number_of (LinkSpatial k) = Some k
fault_number_of (LinkDisjunct k) = Some k
fault_number_of (PremiseDiffers i) = Some i
fault_number_of _ = None

-- what is ill-formed
abbrev pub ill_name_of : IllFault → List ℕ
ill_name_of Duplicate = codes "duplicate"
ill_name_of Parameter = codes "parameter"
ill_name_of Unknown = codes "unknown"
ill_name_of Arity = codes "arity"
ill_name_of Numbering = codes "numbering"
ill_name_of Jump = codes "jump"
ill_name_of FallsOff = codes "falls-off"
ill_name_of NoLine = codes "no-line"
ill_name_of Address = codes "address"
ill_name_of Constant = codes "constant"

-- what a limit counts
abbrev pub limit_name_of : What → List ℕ
limit_name_of Predicates = codes "predicates"
limit_name_of Arguments = codes "arguments"
limit_name_of Cases = codes "cases"
limit_name_of Pure = codes "pure"
limit_name_of Spatial = codes "spatial"
limit_name_of Locals = codes "locals"
limit_name_of Disjuncts = codes "disjuncts"
limit_name_of Lines = codes "lines"
limit_name_of ProgramVariables = codes "program-variables"
limit_name_of Fields = codes "fields"
limit_name_of Nodes = codes "nodes"
limit_name_of Variable = codes "variable"
limit_name_of Stack = codes "stack"
limit_name_of Cells = codes "cells"
limit_name_of Constructors = codes "constructors"
limit_name_of Atoms = codes "atoms"
limit_name_of Terms = codes "terms"
