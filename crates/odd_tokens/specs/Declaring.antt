-- Whether the settings of an XML declaration are allowed, as they are read.
use Rattle.std.specs.Prelude.{ℕ, Bool, false, ◌&&◌, ◌||◌, List, [], ◌∷◌, codes}
use Rattle.std.specs.Str.{str_eq_ignore_ascii_case}
use Rattle.odd_text.specs.Same.{is_same}
use Rattle.odd_tokens.specs.declared.token.WrittenAttr.{WrittenAttr}

abbrev pub is_set_by : WrittenAttr → List ℕ → Bool
is_set_by setting name = is_same setting.name.prefix [] && is_same setting.name.local name

abbrev pub version_is_set : WrittenAttr → Bool
version_is_set setting = is_set_by setting (codes "version") && is_same setting.value (codes "1.0")

abbrev pub encoding_is_set : WrittenAttr → Bool
encoding_is_set setting = is_set_by setting (codes "encoding") && str_eq_ignore_ascii_case setting.value (codes "utf-8")

abbrev pub standalone_is_set : WrittenAttr → Bool
standalone_is_set setting = is_set_by setting (codes "standalone") && (is_same setting.value (codes "yes") || is_same setting.value (codes "no"))

abbrev pub is_declaration_of : List WrittenAttr → Bool
is_declaration_of (version ∷ []) = version_is_set version
is_declaration_of (version ∷ other ∷ []) = version_is_set version && (encoding_is_set other || standalone_is_set other)
is_declaration_of (version ∷ encoding ∷ standalone ∷ []) = version_is_set version && encoding_is_set encoding && standalone_is_set standalone
is_declaration_of settings = false
