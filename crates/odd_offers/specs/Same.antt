-- Whether two definitions of an attribute are the same: by tests that are made of tests of their parts.
use Rattle.std.specs.Prelude.{◌≡◌, ◌==◌, Bool, true, false, ◌&&◌, ℕ, zero, suc, List, [], ◌∷◌, Option, Some, None, refl}
use Rattle.std.proofs.Common.{sym, ap, ◌∙◌}
use Rattle.rng_types.specs.declared.bounds.Bounds.{Bounds}
use Rattle.rng_types.specs.declared.data_type.DataType.{DataType}
use Rattle.rng_types.specs.declared.data_type.DataType.TheVariants as kind
use Rattle.rng_types.specs.declared.facet.Facet.{Facet}
use Rattle.rng_types.specs.declared.facet.FacetName.{FacetName}
use Rattle.rng_types.specs.declared.facet.FacetName.TheVariants as name
use Rattle.rng_types.specs.declared.item.Item.{Item}
use Rattle.rng_types.specs.declared.item.Item.TheVariants as item
use Rattle.rng_types.specs.declared.val_list.ListKind.{ListKind}
use Rattle.rng_types.specs.declared.val_list.ListKind.TheVariants as listing
use Rattle.rng_types.specs.declared.val_list.ValList.{ValList}
use Rattle.odd_attributes.specs.declared.att_def.AttDef.{AttDef}
use Rattle.odd_attributes.specs.declared.att_def.Datatype.{Datatype}

-- a test that passes just two values that are one
pub record Test (A : Type 0) : Type 0 where
  pub same : A → A → Bool
  pub exact : (x y : A) → same x y ≡ true → x ≡ y
  pub itself : (x : A) → same x x ≡ true

-- of two that are both true the first is
pub first : (a b : Bool) → (a && b) ≡ true → a ≡ true
first true b h = refl
first false b h = cc

-- and so is the second
pub second : (a b : Bool) → (a && b) ≡ true → b ≡ true
second true b h = h
second false b h = cc

-- two that are true are both true
pub both : (a b : Bool) → a ≡ true → b ≡ true → (a && b) ≡ true
both true b p q = q
both false b p q = cc

-- equal numbers
pub number_exact : (x y : ℕ) → (x == y) ≡ true → x ≡ y
number_exact x y h = search (Rattle.std.proofs.Common.rules, h)

-- a number equals itself
pub number_itself : (x : ℕ) → (x == x) ≡ true
number_itself x = search Rattle.std.proofs.Common.rules

-- of numbers
pub number_test : Test ℕ
number_test = record { same = ◌==◌; exact = number_exact; itself = number_itself }

module _ {A B : Type 0} (s : Test A) (t : Test B) where
  -- equal pairs
  pub pair_exact : (x y : A × B) → (s.same x.0 y.0 && t.same x.1 y.1) ≡ true → x ≡ y
  pair_exact x y h = λ i. (s.exact x.0 y.0 (first _ _ h) i, t.exact x.1 y.1 (second _ _ h) i)

  -- of pairs, part by part
  abbrev pub pair_test : Test (A × B)
  pair_test = record { same = λ x y. s.same x.0 y.0 && t.same x.1 y.1; exact = pair_exact; itself = λ x. both _ _ (s.itself x.0) (t.itself x.1) }

module _ {A : Type 0} (t : Test A) where
  -- both are missing, or both are there and pass
  abbrev pub option_same : Option A → Option A → Bool
  option_same None None = true
  option_same None (Some y) = false
  option_same (Some x) None = false
  option_same (Some x) (Some y) = t.same x y

  -- equal options
  pub option_exact : (x y : Option A) → option_same x y ≡ true → x ≡ y
  option_exact None None h = refl
  option_exact None (Some y) h = cc
  option_exact (Some x) None h = cc
  option_exact (Some x) (Some y) h = ap Some (t.exact x y h)

  -- an option passes with itself
  pub option_itself : (x : Option A) → option_same x x ≡ true
  option_itself None = refl
  option_itself (Some x) = t.itself x

  -- of what may be missing
  abbrev pub option_test : Test (Option A)
  option_test = record { same = option_same; exact = option_exact; itself = option_itself }

  -- item by item
  abbrev pub list_same : List A → List A → Bool
  list_same [] [] = true
  list_same [] (y ∷ ys) = false
  list_same (x ∷ xs) [] = false
  list_same (x ∷ xs) (y ∷ ys) = t.same x y && list_same xs ys

  -- equal lists
  pub list_exact : (xs ys : List A) → list_same xs ys ≡ true → xs ≡ ys
  list_exact [] [] h = refl
  list_exact [] (y ∷ ys) h = cc
  list_exact (x ∷ xs) [] h = cc
  list_exact (x ∷ xs) (y ∷ ys) h = λ i. t.exact x y (first _ _ h) i ∷ list_exact xs ys (second _ _ h) i

  -- a list passes with itself
  pub list_itself : (xs : List A) → list_same xs xs ≡ true
  list_itself [] = refl
  list_itself (x ∷ xs) = both _ _ (t.itself x) (list_itself xs)

  -- of lists, item by item
  abbrev pub list_test : Test (List A)
  list_test = record { same = list_same; exact = list_exact; itself = list_itself }

-- by what stands for a value, from which it can be got back
abbrev pub test_by : {A B : Type 0} → Test B → (to : A → B) (from : B → A) → ((x : A) → from (to x) ≡ x) → Test A
test_by t to from back = record {
  same = λ x y. t.same (to x) (to y);
  exact = λ x y h. sym (back x) ∙ ap from (t.exact (to x) (to y) h) ∙ back y;
  itself = λ x. t.itself (to x);
}

-- of texts
pub text_test : Test (List ℕ)
text_test = list_test number_test

-- a truth value as a number
abbrev pub bool_number : Bool → ℕ
bool_number false = 0
bool_number true = 1

-- and back
abbrev pub number_bool : ℕ → Bool
number_bool zero = false
number_bool n = true

-- which gives it back
pub bool_back : (x : Bool) → number_bool (bool_number x) ≡ x
bool_back true = refl
bool_back false = refl

-- of truth values
pub bool_test : Test Bool
bool_test = test_by number_test bool_number number_bool bool_back

-- a type of lists as a number
abbrev pub listing_number : ListKind → ℕ
listing_number listing.Closed = 0
listing_number listing.Semi = 1
listing_number listing.Open = 2

-- and back
abbrev pub number_listing : ℕ → ListKind
number_listing zero = listing.Closed
number_listing (suc zero) = listing.Semi
number_listing n = listing.Open

-- which gives it back
pub listing_back : (x : ListKind) → number_listing (listing_number x) ≡ x
listing_back listing.Closed = refl
listing_back listing.Semi = refl
listing_back listing.Open = refl

-- the name of a facet as a number
abbrev pub name_number : FacetName → ℕ
name_number name.Length = 0
name_number name.MaxInclusive = 1
name_number name.MaxLength = 2
name_number name.MinInclusive = 3
name_number name.MinLength = 4
name_number name.Pattern = 5

-- and back
abbrev pub number_name : ℕ → FacetName
number_name zero = name.Length
number_name (suc zero) = name.MaxInclusive
number_name (suc (suc zero)) = name.MaxLength
number_name (suc (suc (suc zero))) = name.MinInclusive
number_name (suc (suc (suc (suc zero)))) = name.MinLength
number_name n = name.Pattern

-- which gives it back
pub name_back : (x : FacetName) → number_name (name_number x) ≡ x
name_back name.Length = refl
name_back name.MaxInclusive = refl
name_back name.MaxLength = refl
name_back name.MinInclusive = refl
name_back name.MinLength = refl
name_back name.Pattern = refl

-- a datatype of XML Schema as a number
abbrev pub kind_number : DataType → ℕ
kind_number kind.String = 0
kind_number kind.NormalizedString = 1
kind_number kind.Token = 2
kind_number kind.Nmtoken = 3
kind_number kind.Name = 4
kind_number kind.NcName = 5
kind_number kind.Id = 6
kind_number kind.Idref = 7
kind_number kind.Language = 8
kind_number kind.AnyUri = 9
kind_number kind.Boolean = 10
kind_number kind.Integer = 11
kind_number kind.NonNegativeInteger = 12
kind_number kind.PositiveInteger = 13
kind_number kind.Decimal = 14

-- and back
abbrev pub number_kind : ℕ → DataType
number_kind zero = kind.String
number_kind (suc zero) = kind.NormalizedString
number_kind (suc (suc zero)) = kind.Token
number_kind (suc (suc (suc zero))) = kind.Nmtoken
number_kind (suc (suc (suc (suc zero)))) = kind.Name
number_kind (suc (suc (suc (suc (suc zero))))) = kind.NcName
number_kind (suc (suc (suc (suc (suc (suc zero)))))) = kind.Id
number_kind (suc (suc (suc (suc (suc (suc (suc zero))))))) = kind.Idref
number_kind (suc (suc (suc (suc (suc (suc (suc (suc zero)))))))) = kind.Language
number_kind (suc (suc (suc (suc (suc (suc (suc (suc (suc zero))))))))) = kind.AnyUri
number_kind (suc (suc (suc (suc (suc (suc (suc (suc (suc (suc zero)))))))))) = kind.Boolean
number_kind (suc (suc (suc (suc (suc (suc (suc (suc (suc (suc (suc zero))))))))))) = kind.Integer
number_kind (suc (suc (suc (suc (suc (suc (suc (suc (suc (suc (suc (suc zero)))))))))))) = kind.NonNegativeInteger
number_kind (suc (suc (suc (suc (suc (suc (suc (suc (suc (suc (suc (suc (suc zero))))))))))))) = kind.PositiveInteger
number_kind n = kind.Decimal

-- which gives it back
pub kind_back : (x : DataType) → number_kind (kind_number x) ≡ x
kind_back kind.String = refl
kind_back kind.NormalizedString = refl
kind_back kind.Token = refl
kind_back kind.Nmtoken = refl
kind_back kind.Name = refl
kind_back kind.NcName = refl
kind_back kind.Id = refl
kind_back kind.Idref = refl
kind_back kind.Language = refl
kind_back kind.AnyUri = refl
kind_back kind.Boolean = refl
kind_back kind.Integer = refl
kind_back kind.NonNegativeInteger = refl
kind_back kind.PositiveInteger = refl
kind_back kind.Decimal = refl

-- of facets
pub facet_test : Test Facet
facet_test = test_by (pair_test number_test text_test) (λ (f : Facet). (name_number f.name, f.value)) (λ p. record { name = number_name p.0; value = p.1 })
    (λ f i. record { name = name_back f.name i; value = f.value })

-- the parts of an item
abbrev pub item_parts : Item → Option (List ℕ) × (ℕ × List Facet)
item_parts (item.Key key) = (Some key, (0, []))
item_parts (item.Typed k facets) = (None, (kind_number k, facets))

-- and back
abbrev pub item_of : Option (List ℕ) → ℕ × List Facet → Item
item_of (Some key) rest = item.Key key
item_of None rest = item.Typed (number_kind rest.0) rest.1

-- which gives it back
pub item_back : (x : Item) → item_of (item_parts x).0 (item_parts x).1 ≡ x
item_back (item.Key key) = refl
item_back (item.Typed k facets) = λ i. item.Typed (kind_back k i) facets

-- of items
pub item_test : Test Item
item_test = test_by (pair_test (option_test text_test) (pair_test number_test (list_test facet_test))) item_parts (λ p. item_of p.0 p.1) item_back

-- of bounds
pub bounds_test : Test Bounds
bounds_test = test_by (pair_test number_test (option_test number_test)) (λ (b : Bounds). (b.min, b.max)) (λ p. record { min = p.0; max = p.1 }) (λ b. refl)

-- of datatypes
pub datatype_test : Test Datatype
datatype_test = test_by (pair_test item_test bounds_test) (λ (d : Datatype). (d.item, d.bounds)) (λ p. record { item = p.0; bounds = p.1 }) (λ d. refl)

-- of lists of values
pub vals_test : Test ValList
vals_test = test_by (pair_test number_test (list_test text_test)) (λ (v : ValList). (listing_number v.kind, v.values)) (λ p. record { kind = number_listing p.0; values = p.1 })
    (λ v i. record { kind = listing_back v.kind i; values = v.values })

-- the parts of a definition
abbrev pub DefParts : Type 0
DefParts = Option (List ℕ) × (Option (List ℕ) × (Bool × (Option Datatype × Option ValList)))

-- of definitions
pub def_test : Test AttDef
def_test =
    test_by (pair_test (option_test text_test) (pair_test (option_test text_test) (pair_test bool_test (pair_test (option_test datatype_test) (option_test vals_test)))))
    (λ (d : AttDef). (d.alt, (d.ns, (d.needed, (d.datatype, d.vals)))))
    (λ (p : DefParts). record { alt = p.0; ns = p.1.0; needed = p.1.1.0; datatype = p.1.1.1.0; vals = p.1.1.1.1 })
    (λ d. refl)

-- the two definitions are the same
abbrev pub def_same : AttDef → AttDef → Bool
def_same = def_test.same
