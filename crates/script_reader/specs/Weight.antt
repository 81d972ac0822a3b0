-- What bounds the steps that are still to come.
use Rattle.std.specs.Prelude.{ℕ, ◌+◌, ◌*◌, vec_len}
use Rattle.script_reader.specs.declared.work.Work.{Work}

-- each step that is added costs one of those that are left, and counts one less than that
abbrev pub weight : Work → ℕ
weight work = 2 * work.left + vec_len work.tasks
