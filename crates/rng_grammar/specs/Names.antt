-- The namespace of RELAX NG, and the datatype library of XML Schema.
use Rattle.std.specs.Prelude.{ℕ, List, codes}
use Rattle.odd_text.specs.declared.name.Name.{Name}

abbrev pub relax_ng_namespace : List ℕ
relax_ng_namespace = codes "http://relaxng.org/ns/structure/1.0"

abbrev pub datatype_library : List ℕ
datatype_library = codes "http://www.w3.org/2001/XMLSchema-datatypes"

-- a name in the namespace of RELAX NG
abbrev pub relax_ng : List ℕ → Name
relax_ng local = record { ns = relax_ng_namespace; local = local }
