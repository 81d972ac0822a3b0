-- The versions of the formats.
use Rattle.std.specs.Prelude.{ℕ, List, [], ◌∷◌, codes}
use Rattle.cyc_basics.specs.declared.limits.Limits.{Limits}
use Rattle.cyc_basics.specs.declared.limits.TheConstants.{MOST_ARGUMENTS, MOST_CASES, MOST_CELLS, MOST_LOCALS, MOST_PURE}
use Rattle.cyc_basics.specs.declared.limits.TheConstants.{MOST_SPATIAL}
use Rattle.cyc_grammar.specs.Syntax.{Class}
use Rattle.cyc_grammar.specs.Classes.{numeral_of}
use Rattle.heap_syntax.specs.declared.version.Version.{Version}
use Rattle.heap_syntax.specs.declared.version.Version.TheVariants.{One, Two, Three}

-- the number that names a version, as it is written
abbrev pub version_text : Version → List ℕ
version_text One = codes "1"
version_text Two = codes "2"
version_text Three = codes "3"

-- all of them
abbrev pub versions : List Version
versions = One ∷ Two ∷ Three ∷ []

abbrev pub version : Class Version
version = numeral_of version_text versions

-- the number of the only version of a format that has one
abbrev pub first_text : Unit {0} → List ℕ
first_text u = codes "1"

abbrev pub first_version : Class (Unit {0})
first_version = numeral_of first_text (tt ∷ [])

-- what a file of this version may have
abbrev pub limits : Version → Limits
limits One = record { arguments = 8; cases = 16; locals = 16; pure = 64; spatial = 16; cells = 16 }
limits Two = record { arguments = 8; cases = 16; locals = 16; pure = 64; spatial = 32; cells = 16 }
limits Three =
    record {
      arguments = MOST_ARGUMENTS;
      cases = MOST_CASES;
      locals = MOST_LOCALS;
      pure = MOST_PURE;
      spatial = MOST_SPATIAL;
      cells = MOST_CELLS;
    }
