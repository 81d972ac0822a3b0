-- What a rule says of the way up to Exec.
use Rattle.std.specs.Prelude.{Bool, true, false}
use Rattle.search_moves.specs.declared.ways.Way.{Way}
use Rattle.search_moves.specs.declared.ways.Way.TheVariants.{AtExec, Above, Elsewhere}

abbrev pub said_by : Bool → Way → Bool
said_by above AtExec = true
said_by above Above = above
said_by above Elsewhere = false
