-- The versions of model files.
use Rattle.std.specs.Prelude.{ℕ, List, [], ◌∷◌, codes}
use Rattle.cyc_basics.specs.declared.limits.Limits.{Limits}
use Rattle.cyc_grammar.specs.Syntax.{Class}
use Rattle.cyc_grammar.specs.Classes.{numeral_of}
use Rattle.heap_syntax.specs.declared.version.Version.{Version}
use Rattle.heap_syntax.specs.declared.version.Version.TheVariants as formats
use Rattle.heap_syntax.specs.Versions.{limits}
use Rattle.model_file.specs.declared.version.ModelVersion.{ModelVersion}
use Rattle.model_file.specs.declared.version.ModelVersion.TheVariants.{One, Three}

-- the number that names a version, as it is written
abbrev pub version_text : ModelVersion → List ℕ
version_text One = codes "1"
version_text Three = codes "3"

-- all of them
abbrev pub versions : List ModelVersion
versions = One ∷ Three ∷ []

abbrev pub model_version : Class ModelVersion
model_version = numeral_of version_text versions

-- the version of the other formats that allows what this one does
abbrev pub format_of : ModelVersion → Version
format_of One = formats.Two
format_of Three = formats.Three

-- what a model file of this version may have
abbrev pub model_limits : ModelVersion → Limits
model_limits v = limits (format_of v)

-- the version of a model of what a text of this version asks
abbrev pub version_for : Version → ModelVersion
version_for formats.One = One
version_for formats.Two = One
version_for formats.Three = Three
