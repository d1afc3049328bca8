-- The opening of a file: a byte order mark and an XML declaration (XML 1.0, sections 2.8 and 4.3.3).
use Rattle.std.specs.Prelude.{◌≢◌, ℕ, ◌+◌, Bool, ◌||◌, ◌==◌, if◌then◌else◌, List, [], ◌∷◌, ◌++◌, map, Option, Some, None, IsTrue, codes}
use Rattle.odd_tokens.specs.Characters.{is_within, is_white}
use Rattle.odd_text.specs.Same.{is_same}

-- section 2.8: one of version, encoding and standalone, with the white space before it and around its equals sign
pub record Setting : Type 0 where
  pub space : List ℕ
  pub before : List ℕ
  pub after : List ℕ
  pub quote : ℕ
  pub value : List ℕ

abbrev pub setting_written : List ℕ → Setting → List ℕ
setting_written name s = s.space ++ name ++ s.before ++ codes "=" ++ s.after ++ s.quote ∷ (s.value ++ s.quote ∷ [])

pub record IsSetting (accepts : List ℕ → Bool) (s : Setting) : Type 0 where
  pub spaced : (s.space ≢ []) × IsTrue (is_white s.space)
  pub around : IsTrue (is_white s.before) × IsTrue (is_white s.after)
  pub quoted : IsTrue (s.quote == 0x22 || s.quote == 0x27)
  pub accepted : IsTrue (accepts s.value)

-- section 2.8, XMLDecl
pub record Declaration : Type 0 where
  pub version : Setting
  pub encoding : Option Setting
  pub standalone : Option Setting
  pub space : List ℕ

abbrev optional_written : List ℕ → Option Setting → List ℕ
optional_written name None = []
optional_written name (Some s) = setting_written name s

abbrev pub declaration_written : Declaration → List ℕ
declaration_written d =
    codes "<?xml" ++ setting_written (codes "version") d.version ++ optional_written (codes "encoding") d.encoding
    ++ optional_written (codes "standalone") d.standalone ++ d.space ++ codes "?>"

abbrev lower : ℕ → ℕ
lower c = if is_within 0x41 0x5A c then c + 0x20 else c

abbrev is_version : List ℕ → Bool
is_version value = is_same value (codes "1.0")

abbrev is_encoding : List ℕ → Bool
is_encoding value = is_same (map lower value) (codes "utf-8")

abbrev is_standalone : List ℕ → Bool
is_standalone value = is_same value (codes "yes") || is_same value (codes "no")

abbrev IsOptional : (List ℕ → Bool) → Option Setting → Type 0
IsOptional accepts None = Unit {0}
IsOptional accepts (Some s) = IsSetting accepts s

pub record IsDeclaration (d : Declaration) : Type 0 where
  pub versioned : IsSetting is_version d.version
  pub encoded : IsOptional is_encoding d.encoding
  pub alone : IsOptional is_standalone d.standalone
  pub ended : IsTrue (is_white d.space)

-- the opening of a file: a byte order mark and an XML declaration, each where it is there
pub record Opening : Type 0 where
  pub mark : Bool
  pub declaration : Option Declaration

abbrev declared_written : Option Declaration → List ℕ
declared_written None = []
declared_written (Some d) = declaration_written d

abbrev pub opening_written : Opening → List ℕ
opening_written o = (if o.mark then 0xFEFF ∷ [] else []) ++ declared_written o.declaration

abbrev IsDeclared : Option Declaration → Type 0
IsDeclared None = Unit {0}
IsDeclared (Some d) = IsDeclaration d

abbrev pub IsOpening : Opening → Type 0
IsOpening o = IsDeclared o.declaration
