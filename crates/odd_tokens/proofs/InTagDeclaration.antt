-- The XML declaration that its settings make.
use Rattle.std.proofs.Common.{◌≡◌, ℕ, Bool, true, ◌&&◌, ◌||◌, ◌==◌, not, nat_lt, List, [], ◌∷◌, ◌++◌, map, sym, refl, ap, ap₂, ◌∙◌, All, arith, codes, ⊎_elim, false, append_assoc, append-nil}
use Rattle.std.proofs.lemmas.Bool.{cond_both, or_cases, and_parts, and_from, eqb-true, false≢true}
use Rattle.std.proofs.lemmas.Bool.Decides.{nat_tests}
use Rattle.std.proofs.lemmas.List.Elements.{All-head, All-tail}
use Rattle.std.proofs.lemmas.Str.{encodes_same}
use Rattle.std.specs.Char.{to_ascii_lowercase}
use Rattle.std.specs.Cmp.Lexicographic.{same_text}
use Rattle.std.specs.List.{list_all}
use Rattle.std.specs.Prelude.{Some, None}
use Rattle.std.specs.Str.{encode_utf8_all, str_eq_ignore_ascii_case}
use Rattle.odd_tokens.proofs.Ascii.{ascii_codes, lowered, all_lowered}
use Rattle.odd_tokens.proofs.InTagNames.{last_read, one_read}
use Rattle.odd_tokens.proofs.InTagStates.{IsPlainPiece, ArePlain, IsAfter, IsEnding, TagEnded}
use Rattle.odd_tokens.proofs.LexedSteps.{IsDeclared}
use Rattle.odd_tokens.specs.Characters.{is_space, is_white}
use Rattle.odd_tokens.specs.Declaring.{is_set_by, version_is_set, encoding_is_set, standalone_is_set, is_declaration_of}
use Rattle.odd_tokens.specs.Making.{attribute_made}
use Rattle.odd_tokens.specs.Openings.{Setting, IsSetting, setting_written, Declaration, IsDeclaration, declaration_written}
use Rattle.odd_text.specs.Same.{is_same}
use Rattle.odd_tokens.specs.Tokens.{QName, Piece, itself, reference, Attribute, IsAttribute, name_written, value_written, attribute_written, attributes_written}
use Rattle.odd_tokens.specs.Values.{value_read}
use Rattle.odd_tokens.specs.declared.token.Token.TheVariants as token
use Rattle.odd_tokens.specs.declared.token.WrittenTag.{WrittenTag}

abbrev is_no_space : ℕ → Bool
is_no_space c = not (c == 0x20)

abbrev is_ascii : ℕ → Bool
is_ascii c = nat_lt c 128

same_head : (c : ℕ) → is_no_space (last_read (itself c)) ≡ true → last_read (itself c) ≡ c
same_head c = cond_both (is_space c) 0x20 c (λ x. is_no_space x ≡ true → x ≡ c) (λ _ h. absurd (false≢true h)) (λ _ h. refl)

feed_is_space : (d : ℕ) (ps : List Piece) → d ≡ 0xA → list_all is_no_space (value_read (itself d ∷ ps)) ≡ true → ⊥
feed_is_space d ps e h = false≢true (rw e at h)

-- a value with no white space and no reference is read as it is written
same_value : (ps : List Piece) → All IsPlainPiece ps → list_all is_no_space (value_read ps) ≡ true → value_written ps ≡ value_read ps
same_value [] a h = refl
same_value (reference r ∷ ps) a h = absurd (All-head IsPlainPiece (reference r) ps a)
same_value (itself c ∷ []) a h =
    let k : list_all is_no_space (last_read (itself c) ∷ []) ≡ true = ap (list_all is_no_space) (sym (one_read (itself c))) ∙ h in
    ap (λ x. x ∷ []) (sym (same_head c (and_parts (is_no_space (last_read (itself c))) true k).0)) ∙ sym (one_read (itself c))
same_value (itself c ∷ reference r ∷ ps) a h = absurd (All-head IsPlainPiece (reference r) ps (All-tail IsPlainPiece (itself c) (reference r ∷ ps) a))
same_value (itself c ∷ itself d ∷ ps) a h =
    cond_both (c == 0xD && d == 0xA) [] (last_read (itself c) ∷ [])
    (λ f. list_all is_no_space (f ++ value_read (itself d ∷ ps)) ≡ true → c ∷ value_written (itself d ∷ ps) ≡ f ++ value_read (itself d ∷ ps))
    (λ e h. absurd (feed_is_space d ps (eqb-true d 0xA (and_parts (c == 0xD) (d == 0xA) e).1) h))
    (λ _ h. let p = and_parts (is_no_space (last_read (itself c))) (list_all is_no_space (value_read (itself d ∷ ps))) h in
    ap₂ (λ x y. x ∷ y) (sym (same_head c p.0)) (same_value (itself d ∷ ps) (All-tail IsPlainPiece (itself c) (itself d ∷ ps) a) p.1))
    h

pub written_value : (ps : List Piece) (v : List ℕ) → All IsPlainPiece ps → encode_utf8_all (value_read ps) ≡ v → list_all is_ascii v ≡ true → list_all is_no_space v ≡ true
    → value_written ps ≡ v
written_value ps v a e low none =
    let same : value_read ps ≡ v = encodes_same (value_read ps) v (e ∙ sym (ascii_codes v low)) in
    same_value ps a (rw same none) ∙ same

-- where the letters may be of any case

all_mapped : (p q : ℕ → Bool) (f : ℕ → ℕ) → ((c : ℕ) → p (f c) ≡ true → q c ≡ true) → (cs : List ℕ) → list_all p (map f cs) ≡ true → list_all q cs ≡ true
all_mapped p q f h [] a = refl
all_mapped p q f h (c ∷ cs) a = and_from _ _ (h c (and_parts _ _ a).0) (all_mapped p q f h cs (and_parts _ _ a).1)

low_ascii : (c : ℕ) → is_ascii (to_ascii_lowercase c) ≡ true → is_ascii c ≡ true
low_ascii c h = grind (arith, nat_tests)

low_no_space : (c : ℕ) → is_no_space (to_ascii_lowercase c) ≡ true → is_no_space c ≡ true
low_no_space c h = grind (arith, nat_tests)

low_value : (ps : List Piece) → All IsPlainPiece ps → map to_ascii_lowercase (encode_utf8_all (value_read ps)) ≡ codes "utf-8" → map lowered (value_written ps) ≡ codes "utf-8"
low_value ps a e =
    let v = encode_utf8_all (value_read ps) in
    let w : value_written ps ≡ v = written_value ps v a refl (all_mapped is_ascii is_ascii to_ascii_lowercase low_ascii v (rw e refl))
    (all_mapped is_no_space is_no_space to_ascii_lowercase low_no_space v (rw e refl)) in
    ap (map lowered) w ∙ all_lowered v ∙ e

-- a setting, of an attribute

abbrev pub setting : Attribute → Setting
setting a = record { space = a.space; before = a.before; after = a.after; quote = a.quote; value = value_written a.value }

plain_name : (n : QName) (name : List ℕ) → list_all is_ascii name ≡ true → is_same (encode_utf8_all n.prefix) [] ≡ true → is_same (encode_utf8_all n.local) name ≡ true
    → name_written n ≡ name
plain_name n name low p l =
    let no_prefix : n.prefix ≡ [] = encodes_same n.prefix [] (same_text (encode_utf8_all n.prefix) [] (sym p)) in
    let local : n.local ≡ name = encodes_same n.local name (same_text (encode_utf8_all n.local) name (sym l) ∙ sym (ascii_codes name low)) in
    ap (λ x. name_written (record { prefix = x; local = n.local })) no_prefix ∙ local

pub setting_read : (a : Attribute) (name : List ℕ) → list_all is_ascii name ≡ true → is_set_by (attribute_made a) name ≡ true
    → setting_written name (setting a) ≡ attribute_written a
setting_read a name low h =
    let p = and_parts (is_same (encode_utf8_all a.name.prefix) []) (is_same (encode_utf8_all a.name.local) name) h in
    let e : name_written a.name ≡ name = plain_name a.name name low p.0 p.1 in
    ap (λ n. a.space ++ n ++ a.before ++ codes "=" ++ a.after ++ a.quote ∷ (value_written a.value ++ a.quote ∷ [])) (sym e)

pub is_setting : (accepts : List ℕ → Bool) (a : Attribute) → IsAttribute a → accepts (value_written a.value) ≡ true → IsSetting accepts (setting a)
is_setting accepts a i h = record { spaced = i.spaced; around = i.around; quoted = i.quoted; accepted = h }

-- a value that is one text
one_value : (a : Attribute) (v : List ℕ) → All IsPlainPiece a.value → list_all is_ascii v ≡ true → list_all is_no_space v ≡ true
    → is_same (encode_utf8_all (value_read a.value)) v ≡ true
    → value_written a.value ≡ v
one_value a v plain low none h = written_value a.value v plain (same_text (encode_utf8_all (value_read a.value)) v (sym h)) low none

pub version_set : (a : Attribute) → IsAttribute a → All IsPlainPiece a.value → version_is_set (attribute_made a) ≡ true
    → IsSetting (λ v. is_same v (codes "1.0")) (setting a) × (setting_written (codes "version") (setting a) ≡ attribute_written a)
version_set a i plain h =
    let p = and_parts (is_set_by (attribute_made a) (codes "version")) (is_same (encode_utf8_all (value_read a.value)) (codes "1.0")) h in
    (is_setting _ a i (rw (one_value a (codes "1.0") plain refl refl p.1) refl), setting_read a (codes "version") refl p.0)

pub encoding_set : (a : Attribute) → IsAttribute a → All IsPlainPiece a.value → encoding_is_set (attribute_made a) ≡ true
    → IsSetting (λ v. is_same (map lowered v) (codes "utf-8")) (setting a) × (setting_written (codes "encoding") (setting a) ≡ attribute_written a)
encoding_set a i plain h =
    let p = and_parts (is_set_by (attribute_made a) (codes "encoding")) (str_eq_ignore_ascii_case (encode_utf8_all (value_read a.value)) (codes "utf-8")) h in
    let e : map lowered (value_written a.value) ≡ codes "utf-8" = low_value a.value plain (same_text _ (codes "utf-8") (sym p.1)) in
    (is_setting _ a i (rw e refl), setting_read a (codes "encoding") refl p.0)

pub standalone_set : (a : Attribute) → IsAttribute a → All IsPlainPiece a.value → standalone_is_set (attribute_made a) ≡ true
    → IsSetting (λ v. is_same v (codes "yes") || is_same v (codes "no")) (setting a) × (setting_written (codes "standalone") (setting a) ≡ attribute_written a)
standalone_set a i plain h =
    let v = encode_utf8_all (value_read a.value) in
    let p = and_parts (is_set_by (attribute_made a) (codes "standalone")) (is_same v (codes "yes") || is_same v (codes "no")) h in
    let q : (is_same (value_written a.value) (codes "yes") || is_same (value_written a.value) (codes "no")) ≡ true = ⊎_elim
    (λ y. rw (one_value a (codes "yes") plain refl refl y) refl)
    (λ n. rw (one_value a (codes "no") plain refl refl n) refl)
    (or_cases (is_same v (codes "yes")) (is_same v (codes "no")) p.1) in
    (is_setting _ a i q, setting_read a (codes "standalone") refl p.0)

-- these settings and this white space are a declaration
record IsDeclarationOf (settings : List Attribute) (space : List ℕ) : Type 0 where
  pub declaration : Declaration
  pub is_declaration : IsDeclaration declaration
  pub is_written : declaration_written declaration ≡ codes "<?xml" ++ attributes_written settings ++ space ++ codes "?>"

alone_written : (h a s e : List ℕ) → h ++ a ++ [] ++ [] ++ s ++ e ≡ h ++ (a ++ []) ++ s ++ e
alone_written h a s e = simp (append_assoc, append-nil)

two_written : (h a b s e : List ℕ) → h ++ a ++ b ++ [] ++ s ++ e ≡ h ++ (a ++ (b ++ [])) ++ s ++ e
two_written h a b s e = simp (append_assoc, append-nil)

other_written : (h a b s e : List ℕ) → h ++ a ++ [] ++ b ++ s ++ e ≡ h ++ (a ++ (b ++ [])) ++ s ++ e
other_written h a b s e = simp (append_assoc, append-nil)

three_written : (h a b c s e : List ℕ) → h ++ a ++ b ++ c ++ s ++ e ≡ h ++ (a ++ (b ++ (c ++ []))) ++ s ++ e
three_written h a b c s e = simp (append_assoc, append-nil)

one_setting : (a : Attribute) (space : List ℕ) → IsAttribute a → ArePlain true a.value → is_white space ≡ true → version_is_set (attribute_made a) ≡ true
    → IsDeclarationOf (a ∷ []) space
one_setting a space i p w h =
    let v = version_set a i p h in
    record {
      declaration = record { version = setting a; encoding = None; standalone = None; space = space };
      is_declaration = record { versioned = v.0; encoded = tt; alone = tt; ended = w };
      is_written = ap (λ x. codes "<?xml" ++ x ++ [] ++ [] ++ space ++ codes "?>") v.1 ∙ alone_written (codes "<?xml") (attribute_written a) space (codes "?>");
    }

with_encoding : (a b : Attribute) (space : List ℕ) → IsAttribute a → IsAttribute b → ArePlain true a.value → ArePlain true b.value → is_white space ≡ true
    → version_is_set (attribute_made a) ≡ true → encoding_is_set (attribute_made b) ≡ true → IsDeclarationOf (a ∷ b ∷ []) space
with_encoding a b space i j p q w h g =
    let v = version_set a i p h in
    let e = encoding_set b j q g in
    record {
      declaration = record { version = setting a; encoding = Some (setting b); standalone = None; space = space };
      is_declaration = record { versioned = v.0; encoded = e.0; alone = tt; ended = w };
      is_written = ap₂ (λ x y. codes "<?xml" ++ x ++ y ++ [] ++ space ++ codes "?>") v.1 e.1 ∙ two_written (codes "<?xml") (attribute_written a) (attribute_written b) space (codes "?>");
    }

with_standalone : (a b : Attribute) (space : List ℕ) → IsAttribute a → IsAttribute b → ArePlain true a.value → ArePlain true b.value → is_white space ≡ true
    → version_is_set (attribute_made a) ≡ true → standalone_is_set (attribute_made b) ≡ true → IsDeclarationOf (a ∷ b ∷ []) space
with_standalone a b space i j p q w h g =
    let v = version_set a i p h in
    let e = standalone_set b j q g in
    record {
      declaration = record { version = setting a; encoding = None; standalone = Some (setting b); space = space };
      is_declaration = record { versioned = v.0; encoded = tt; alone = e.0; ended = w };
      is_written = ap₂ (λ x y. codes "<?xml" ++ x ++ [] ++ y ++ space ++ codes "?>") v.1 e.1 ∙ other_written (codes "<?xml") (attribute_written a) (attribute_written b) space (codes "?>");
    }

with_both : (a b c : Attribute) (space : List ℕ) → IsAttribute a → IsAttribute b → IsAttribute c → ArePlain true a.value → ArePlain true b.value → ArePlain true c.value
    → is_white space ≡ true
    → version_is_set (attribute_made a) ≡ true → encoding_is_set (attribute_made b) ≡ true → standalone_is_set (attribute_made c) ≡ true → IsDeclarationOf (a ∷ b ∷ c ∷ []) space
with_both a b c space i j k p q r w h g f =
    let v = version_set a i p h in
    let e = encoding_set b j q g in
    let s = standalone_set c k r f in
    record {
      declaration = record { version = setting a; encoding = Some (setting b); standalone = Some (setting c); space = space };
      is_declaration = record { versioned = v.0; encoded = e.0; alone = s.0; ended = w };
      is_written =
          ap₂ (λ x y. codes "<?xml" ++ x ++ y ++ setting_written (codes "standalone") (setting c) ++ space ++ codes "?>") v.1 e.1
          ∙ ap (λ z. codes "<?xml" ++ attribute_written a ++ attribute_written b ++ z ++ space ++ codes "?>") s.1
          ∙ three_written (codes "<?xml") (attribute_written a) (attribute_written b) (attribute_written c) space (codes "?>");
    }

abbrev IsPlainAttribute : Attribute → Type 0
IsPlainAttribute a = ArePlain true a.value

declaration_of : (settings : List Attribute) (space : List ℕ) → All IsAttribute settings → All IsPlainAttribute settings → is_white space ≡ true
    → is_declaration_of (map attribute_made settings) ≡ true → IsDeclarationOf settings space
declaration_of [] space i p w h = absurd (false≢true h)
declaration_of (a ∷ []) space i p w h = one_setting a space (All-head IsAttribute a [] i) (All-head IsPlainAttribute a [] p) w h
declaration_of (a ∷ b ∷ []) space i p w h =
    let k = and_parts (version_is_set (attribute_made a)) (encoding_is_set (attribute_made b) || standalone_is_set (attribute_made b)) h in
    let i₁ = All-head IsAttribute a (b ∷ []) i in
    let i₂ = All-head IsAttribute b [] (All-tail IsAttribute a (b ∷ []) i) in
    let p₁ = All-head IsPlainAttribute a (b ∷ []) p in
    let p₂ = All-head IsPlainAttribute b [] (All-tail IsPlainAttribute a (b ∷ []) p) in
    ⊎_elim (λ e. with_encoding a b space i₁ i₂ p₁ p₂ w k.0 e) (λ s. with_standalone a b space i₁ i₂ p₁ p₂ w k.0 s)
    (or_cases (encoding_is_set (attribute_made b)) (standalone_is_set (attribute_made b)) k.1)
declaration_of (a ∷ b ∷ c ∷ []) space i p w h =
    let k = and_parts (version_is_set (attribute_made a) && encoding_is_set (attribute_made b)) (standalone_is_set (attribute_made c)) h in
    let m = and_parts (version_is_set (attribute_made a)) (encoding_is_set (attribute_made b)) k.0 in
    let j = All-tail IsAttribute a (b ∷ c ∷ []) i in
    let q = All-tail IsPlainAttribute a (b ∷ c ∷ []) p in
    with_both a b c space (All-head IsAttribute a (b ∷ c ∷ []) i) (All-head IsAttribute b (c ∷ []) j) (All-head IsAttribute c [] (All-tail IsAttribute b (c ∷ []) j))
    (All-head IsPlainAttribute a (b ∷ c ∷ []) p) (All-head IsPlainAttribute b (c ∷ []) q) (All-head IsPlainAttribute c [] (All-tail IsPlainAttribute b (c ∷ []) q)) w m.0 m.1 k.1
declaration_of (a ∷ b ∷ c ∷ d ∷ rest) space i p w h = absurd (false≢true h)

declared : (settings : List Attribute) (space read : List ℕ) → read ≡ codes "<?xml" ++ attributes_written settings ++ space ++ codes "?>" → IsDeclarationOf settings space
    → IsDeclared read token.Passed
declared settings space read e d = record { declaration = d.declaration; is_declaration = d.is_declaration; is_written = d.is_written ∙ sym e; is_made = refl }

pub declaration_ends : (declares : Bool) (at : ℕ) (read : List ℕ) (made : WrittenTag) → declares ≡ true → IsAfter declares at read made (IsEnding 0x3F)
    → is_declaration_of made.attrs ≡ true → TagEnded declares at (read ++ codes ">") token.Passed
declaration_ends false at read made e a h = absurd (false≢true e)
declaration_ends true at read made e a h =
    let f = a.is_front in
    let i = a.is_part in
    declared f.attributes i.space (read ++ codes ">")
    (ap (λ z. z ++ codes ">") (a.is_read ∙ ap₂ (λ x y. x ++ y) f.is_read i.is_read) ∙ simp append_assoc)
    (declaration_of f.attributes i.space f.attributed f.are_plain i.spaced (rw (← f.is_made) h))
