-- The last binding of a prefix, level by level, and tags of names without a prefix.
use Rattle.std.proofs.Common.{◌≡◌, ℕ, ◌+◌, ◌<◌, Bool, true, false, cond, List, [], ◌∷◌, ◌++◌, length, get_or, take, refl, sym, ap, ◌∙◌, map, append_assoc, ◌≢◌, All, codes}
use Rattle.std.proofs.lemmas.Bool.{false_from_ne_true}
use Rattle.std.proofs.lemmas.List.{take_more, append-nil, map-append}
use Rattle.std.proofs.lemmas.List.Elements.{All-filter, All-map}
use Rattle.std.proofs.lemmas.Map.Text.{is_eq-slice_cmp}
use Rattle.std.proofs.lemmas.Str.{encodes_same}
use Rattle.std.specs.BTreeMap.{is_at}
use Rattle.std.specs.Borrow.{Bor}
use Rattle.std.specs.Cmp.Lexicographic.{same_text}
use Rattle.std.specs.Prelude.{Some, None, unwrap_or, Option, IsSome, is_none}
use Rattle.odd_text.specs.Text.{text_cmp}
use Rattle.odd_text.specs.declared.name.Bind.{Bind}
use Rattle.odd_text.specs.declared.name.Name.{Name}
use Rattle.odd_tokens.proofs.Characters.{Lacks, distinct, none_twice, kept_distinct}
use Rattle.odd_text.specs.Same.{is_same}
use Rattle.odd_tokens.specs.Tokens.{QName, Piece, Attribute, Tag, NoneTwice, name_written}
use Rattle.odd_tree.specs.Elements.{all_binds}
use Rattle.odd_tree.specs.Markup.{Pair}
use Rattle.odd_tree.specs.Names.{last_bound, declared_prefix, binds_of, plain_attributes, attribute_name}

-- a look-up at a text compares as two texts do
pub is_at_text : (p q : List ℕ) → is_at (text_cmp p) q ≡ is_same p q
is_at_text p q = is_eq-slice_cmp p q

pub last_bound_some : (some more : List Bind) (prefix ns : List ℕ) → last_bound more prefix ≡ Some ns → last_bound (some ++ more) prefix ≡ Some ns
last_bound_some [] more prefix ns e = e
last_bound_some (b ∷ bs) more prefix ns e = rw (last_bound_some bs more prefix ns e)

pub last_bound_none : (some more : List Bind) (prefix : List ℕ) → last_bound more prefix ≡ None → last_bound (some ++ more) prefix ≡ last_bound some prefix
last_bound_none [] more prefix e = e
last_bound_none (b ∷ bs) more prefix e = rw (last_bound_none bs more prefix e)

at_end : (bs : List Bind) (b : Bind) (prefix : List ℕ) (same : Bool) → is_same b.prefix prefix ≡ same
    → last_bound (bs ++ b ∷ []) prefix ≡ cond same (Some b.ns) (last_bound bs prefix)
at_end bs b prefix true e = last_bound_some bs (b ∷ []) prefix b.ns (rw e)
at_end bs b prefix false e = last_bound_none bs (b ∷ []) prefix (rw e)

-- one declaration more, which is the last
pub last_bound_more : (bs : List Bind) (i : ℕ) (b : Bind) (prefix : List ℕ) → i < length bs → b ≡ get_or bs i b
    → last_bound (take (i + 1) bs) prefix ≡ cond (is_at (text_cmp b.prefix) prefix) (Some b.ns) (last_bound (take i bs) prefix)
last_bound_more bs i b prefix lt e =
    ap (λ l. last_bound l prefix) (take_more bs i b lt ∙ ap (λ x. take i bs ++ x ∷ []) (sym e))
    ∙ at_end (take i bs) b prefix (is_same b.prefix prefix) refl
    ∙ ap (λ s. cond s (Some b.ns) (last_bound (take i bs) prefix)) (sym (is_at_text b.prefix prefix))

pub all_binds_more : (levels : List (List Bind)) (own : List Bind) → all_binds (levels ++ own ∷ []) ≡ all_binds levels ++ own
all_binds_more [] own = append-nil own
all_binds_more (level ∷ levels) own = ap (λ bs. level ++ bs) (all_binds_more levels own) ∙ sym (append_assoc level (all_binds levels) own)

-- levels behind references, with one more
pub seen_more : (some all : List (Bor (List Bind))) (level : Bor (List Bind)) → all ≡ some ++ level ∷ []
    → all_binds (map (λ b. b.now) all) ≡ all_binds (map (λ b. b.now) some) ++ level.now
seen_more some all level e =
    ap (λ l. all_binds (map (λ b. b.now) l)) e ∙ ap all_binds (map-append (λ b. b.now) some (level ∷ [])) ∙ all_binds_more (map (λ b. b.now) some) level.now

-- the last level binds the prefix
pub bound_last : (some all : List (Bor (List Bind))) (level : Bor (List Bind)) (prefix ns : List ℕ) → all ≡ some ++ level ∷ [] → last_bound level.now prefix ≡ Some ns
    → last_bound (all_binds (map (λ b. b.now) all)) prefix ≡ Some ns
bound_last some all level prefix ns e h = ap (λ l. last_bound l prefix) (seen_more some all level e) ∙ last_bound_some (all_binds (map (λ b. b.now) some)) level.now prefix ns h

-- it does not
pub bound_before : (some all : List (Bor (List Bind))) (level : Bor (List Bind)) (prefix : List ℕ) → all ≡ some ++ level ∷ [] → last_bound level.now prefix ≡ None
    → last_bound (all_binds (map (λ b. b.now) all)) prefix ≡ last_bound (all_binds (map (λ b. b.now) some)) prefix
bound_before some all level prefix e h = ap (λ l. last_bound l prefix) (seen_more some all level e) ∙ last_bound_none (all_binds (map (λ b. b.now) some)) level.now prefix h

abbrev pub unprefixed : List ℕ → QName
unprefixed name = record { prefix = []; local = name }

-- an attribute with one space before it, and with this piece for each character of its value
abbrev pub attribute_with : (ℕ → Piece) → Pair → Attribute
attribute_with piece a = record { space = 0x20 ∷ []; name = unprefixed a.0; before = []; after = []; quote = 0x22; value = map piece a.1 }

abbrev pub tag_with : (ℕ → Piece) → List ℕ → List Pair → Tag
tag_with piece name attributes = record { name = unprefixed name; attributes = map (attribute_with piece) attributes; space = [] }

abbrev pub name_of : Pair → List ℕ
name_of a = a.0

-- what is written

pub joined : (n v rest : List ℕ) → (0x20 ∷ (n ++ [] ++ (0x3D ∷ []) ++ [] ++ (0x22 ∷ (v ++ 0x22 ∷ [])))) ++ rest ≡ 0x20 ∷ (n ++ (0x3D ∷ 0x22 ∷ []) ++ v ++ (0x22 ∷ []) ++ rest)
joined n v rest = simp (append_assoc, append-nil)

pub names_are : (piece : ℕ → Piece) (attributes : List Pair) → map (λ a. name_written a.name) (map (attribute_with piece) attributes) ≡ map (λ a. a.0) attributes
names_are piece [] = refl
names_are piece (a ∷ rest) = ap (λ xs. a.0 ∷ xs) (names_are piece rest)

-- what is declared

pub not_same : (a b : List ℕ) → a ≢ b → is_same a b ≡ false
not_same a b n = false_from_ne_true _ (λ e. n (same_text a b (sym e)))

-- attributes that are no declarations bind nothing
pub nothing_bound : (piece : ℕ → Piece) (attributes : List Pair) → Lacks (codes "xmlns") (map (λ a. a.0) attributes) → binds_of (map (attribute_with piece) attributes) ≡ []
nothing_bound piece [] l = refl
nothing_bound piece (a ∷ rest) l = rw (not_same a.0 (codes "xmlns") l.0, nothing_bound piece rest l.1) refl

-- and all of them are kept
pub all_plain : (piece : ℕ → Piece) (attributes : List Pair) → Lacks (codes "xmlns") (map (λ a. a.0) attributes) → plain_attributes (map (attribute_with piece) attributes) ≡ map (attribute_with piece) attributes
all_plain piece [] l = refl
all_plain piece (a ∷ rest) l = rw (not_same a.0 (codes "xmlns") l.0, all_plain piece rest l.1) refl

-- each attribute has an expanded name
pub attributes_named : (piece : ℕ → Piece) (binds : List Bind) (attributes : List Pair) → All (λ a. IsSome (attribute_name binds a.name)) (plain_attributes (map (attribute_with piece) attributes))
attributes_named piece binds attributes =
    let is_named : Attribute → Type 0 = λ a. IsSome (attribute_name binds a.name) in
    All-filter (λ a. is_none (declared_prefix a.name)) is_named (map (attribute_with piece) attributes) (All-map is_named (attribute_with piece) attributes (λ k d l. refl))

-- no two have one expanded name
pub names_once : (piece : ℕ → Piece) (binds : List Bind) (attributes : List Pair) → NoneTwice (map (λ (a : Pair). a.0) attributes)
    → NoneTwice (map (λ a. attribute_name binds a.name) (plain_attributes (map (attribute_with piece) attributes)))
names_once piece binds attributes n =
    none_twice _ (kept_distinct name_of (attribute_with piece) (λ a. attribute_name binds a.name) (λ a. is_none (declared_prefix a.name)) apart attributes (distinct _ n))
  where
    apart : (a b : Pair) → attribute_name binds (unprefixed a.0) ≡ attribute_name binds (unprefixed b.0) → a.0 ≡ b.0
    apart a b e = encodes_same a.0 b.0 (ap (λ (o : Option Name). (unwrap_or o (record { ns = []; local = [] })).local) e)
