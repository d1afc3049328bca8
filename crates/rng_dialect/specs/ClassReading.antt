-- The machine that reads a class one character after another.
use Rattle.std.specs.Prelude.{ℕ, Bool, false, true, ◌==◌, ◌&&◌, nat_le, if◌then◌else◌, List, [], ◌∷◌, ◌++◌, Option, Some, None}
use Rattle.rng_dialect.specs.Class.{backslash, hyphen, is_escaped, is_plain_member, sign}
use Rattle.rng_dialect.specs.declared.class.ClassPlace.{ClassPlace}
use Rattle.rng_dialect.specs.declared.class.ClassPlace.TheVariants as places
use Rattle.rng_dialect.specs.declared.class.ClassReader.{ClassReader}
use Rattle.rng_dialect.specs.declared.class.ClassTaken.{ClassTaken}
use Rattle.rng_dialect.specs.declared.class.ClassTaken.TheVariants as taken
use Rattle.rng_dialect.specs.declared.regex.Member.{Member}
use Rattle.rng_dialect.specs.declared.regex.Member.TheVariants as member

abbrev pub reader_at : Bool → List Member → ClassPlace → ClassReader
reader_at negated members place = record { negated = negated; members = members; place = place }

abbrev pub new_class : ClassReader
new_class = reader_at false [] places.Sign

abbrev pub closing : ℕ
closing = 0x5D

-- the greatest character that may stand after `\`
abbrev pub last_escaped : ℕ
last_escaped = 0x7D

-- the character is the first of a member
abbrev pub member_begun : Bool → List Member → ℕ → Option ClassPlace
member_begun negated ms c = if is_plain_member c then Some (places.Single c) else (if c == backslash then Some places.Escape else None)

abbrev pub goes_on : ClassReader → Bool → List Member → Option ClassPlace → ClassTaken × ClassReader
goes_on old negated ms None = (taken.Misfit, old)
goes_on old negated ms (Some place) = (taken.More, reader_at negated ms place)

abbrev pub begins_member : ClassReader → Bool → List Member → ℕ → ClassTaken × ClassReader
begins_member old negated ms c = goes_on old negated ms (member_begun negated ms c)

abbrev pub whole : Bool → List Member → ClassPlace → ClassTaken × ClassReader
whole negated ms place = (taken.Whole, reader_at negated ms place)

abbrev pub more : Bool → List Member → ClassPlace → ClassTaken × ClassReader
more negated ms place = (taken.More, reader_at negated ms place)

-- a `-` may be the first member
abbrev pub first_step : ClassReader → Bool → List Member → ℕ → ClassTaken × ClassReader
first_step old negated ms c = if c == hyphen then more negated (ms ++ member.Char hyphen ∷ []) places.Between else begins_member old negated ms c

abbrev pub step_at : ClassReader → Bool → List Member → ClassPlace → ℕ → ClassTaken × ClassReader
step_at old negated ms places.Sign c = if c == sign then more true ms places.First else first_step old negated ms c
step_at old negated ms places.First c = first_step old negated ms c
step_at old negated ms (places.Single d) c =
    if c == closing then whole negated (ms ++ member.Char d ∷ []) (places.Single d)
    else (if c == hyphen then more negated ms (places.Hyphen d) else begins_member old negated (ms ++ member.Char d ∷ []) c)
step_at old negated ms (places.Hyphen low) c =
    if c == closing then whole negated (ms ++ member.Char low ∷ member.Char hyphen ∷ []) (places.Hyphen low)
    else (if is_plain_member c && nat_le low c then more negated (ms ++ member.Range low c ∷ []) places.Between
    else (if c == backslash && nat_le low last_escaped then more negated ms (places.EscapeTo low) else (taken.Misfit, old)))
step_at old negated ms places.Between c =
    if c == closing then whole negated ms places.Between
    else (if c == hyphen then more negated (ms ++ member.Char hyphen ∷ []) places.LastHyphen else begins_member old negated ms c)
step_at old negated ms places.LastHyphen c = if c == closing then whole negated ms places.LastHyphen else (taken.Misfit, old)
step_at old negated ms places.Escape c = if is_escaped c then more negated ms (places.Single c) else (taken.Misfit, old)
step_at old negated ms (places.EscapeTo low) c = if is_escaped c && nat_le low c then more negated (ms ++ member.Range low c ∷ []) places.Between else (taken.Misfit, old)

-- what a character is to the reader, and the reader after it. One that does not fit leaves it as it was
abbrev pub class_step : ClassReader → ℕ → ClassTaken × ClassReader
class_step old c = step_at old old.negated old.members old.place c

-- the class that is closed by characters, and what comes after it
abbrev class_next : ClassTaken → ClassReader → List ℕ → (ClassReader → Option (ClassReader × List ℕ)) → Option (ClassReader × List ℕ)
class_next taken.More r cs later = later r
class_next taken.Whole r cs later = Some (r, cs)
class_next taken.Misfit r cs later = None

abbrev pub class_read : ClassReader → List ℕ → Option (ClassReader × List ℕ)
class_read r [] = None
class_read r (c ∷ cs) = class_next (class_step r c).0 (class_step r c).1 cs (λ next. class_read next cs)

-- the reader after characters, none of which closes the class
abbrev class_goes : ClassTaken → ClassReader → (ClassReader → Option ClassReader) → Option ClassReader
class_goes taken.More r later = later r
class_goes taken.Whole r later = None
class_goes taken.Misfit r later = None

abbrev pub class_run : ClassReader → List ℕ → Option ClassReader
class_run r [] = Some r
class_run r (c ∷ cs) = class_goes (class_step r c).0 (class_step r c).1 (λ next. class_run next cs)
