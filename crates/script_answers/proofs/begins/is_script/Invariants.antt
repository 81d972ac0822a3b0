use Rattle.script_answers.proofs.Begun.{Looked}
use Rattle.script_answers.proofs.begins.is_script.Given as goal

abbrev pub invariant-bytes : goal.invariant-bytes
invariant-bytes l = Looked l.input l.next-index l.comment
