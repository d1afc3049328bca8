-- Which offers tell nothing more than others: where a change makes the definitions of those one, it makes theirs that one too. A change gives each part of a
-- definition anew or leaves it, puts each word into a list or takes it out or leaves it, and makes no list where there is none.
use Rattle.std.specs.Prelude.{Bool, true, false, not, ◌&&◌, ◌||◌, ℕ, List, [], ◌∷◌, unwrap_or, is_some}
use Rattle.std.specs.List.{list_all, list_any}
use Rattle.std.specs.Option.{option_map}
use Rattle.std.specs.Ordering.{is_lt, is_gt}
use Rattle.odd_text.specs.Text.{text_cmp}
use Rattle.rng_types.specs.declared.val_list.ListKind.{ListKind}
use Rattle.odd_attributes.specs.declared.att_def.AttDef.{AttDef}
use Rattle.odd_offers.specs.Same.{Test, bool_test, datatype_test, def_same, listing_back, listing_number, number_listing, number_test, option_test, test_by, text_test, vals_test}
use Rattle.odd_offers.specs.declared.table.Offer.{Offer}
use Rattle.odd_offers.specs.declared.telling.DefPart.{DefPart}
use Rattle.odd_offers.specs.declared.telling.DefPart.TheVariants as part

-- of types of lists
pub kind_test : Test ListKind
kind_test = test_by number_test listing_number number_listing listing_back

-- two definitions are alike in a part
abbrev pub alike_at : DefPart → AttDef → AttDef → Bool
alike_at part.Alt a b = (option_test text_test).same a.alt b.alt
alike_at part.Ns a b = (option_test text_test).same a.ns b.ns
alike_at part.Needed a b = bool_test.same a.needed b.needed
alike_at part.Datatype a b = (option_test datatype_test).same a.datatype b.datatype
alike_at part.Values a b = (option_test vals_test).same a.vals b.vals
alike_at part.HasValues a b = bool_test.same (is_some a.vals) (is_some b.vals)
alike_at part.ListKind a b = (option_test kind_test).same (option_map (λ l. l.kind) a.vals) (option_map (λ l. l.kind) b.vals)

-- the values of a definition
abbrev pub words_of : AttDef → List (List ℕ)
words_of def = unwrap_or (option_map (λ l. l.values) def.vals) []

abbrev pub has_word : List ℕ → AttDef → Bool
has_word word def = list_any (text_test.same word) (words_of def)

-- both have the word among their values, or neither has
abbrev pub alike_word : List ℕ → AttDef → AttDef → Bool
alike_word word a b = bool_test.same (has_word word a) (has_word word b)

-- the definition is alike the first, or one of the offers is not
abbrev pub told_by : (AttDef → AttDef → Bool) → AttDef → List Offer → AttDef → Bool
told_by alike first offers def = alike first def || list_any (λ offer. not (alike first offer.def)) offers

abbrev pub parts : List DefPart
parts = part.Alt ∷ part.Ns ∷ part.Needed ∷ part.Datatype ∷ part.Values ∷ part.HasValues ∷ part.ListKind ∷ []

-- a word is not above the first of others
abbrev pub is_before : List ℕ → List (List ℕ) → Bool
is_before word [] = true
is_before word (next ∷ words) = not (is_gt (text_cmp word next))

-- no word is above the next
abbrev pub in_order : List (List ℕ) → Bool
in_order [] = true
in_order (word ∷ words) = is_before word words && in_order words

-- so are the values of each offer
abbrev pub are_in_order : List Offer → Bool
are_in_order offers = list_all (λ offer. in_order (words_of offer.def)) offers

-- the values are in order, and each that the definition or the first has is told
abbrev pub are_words_told : AttDef → List Offer → AttDef → Bool
are_words_told first offers def = in_order (words_of def)
    && (are_in_order offers
    && (list_all (λ word. told_by (alike_word word) first offers def) (words_of first) && list_all (λ word. told_by (alike_word word) first offers def) (words_of def)))

abbrev pub is_def_told : AttDef → List Offer → AttDef → Bool
is_def_told first offers def = def_same first def || (list_all (λ part. told_by (alike_at part) first offers def) parts && are_words_told first offers def)

-- one of the offers has no greater giver
abbrev pub is_given : List Offer → List ℕ → Bool
is_given offers giver = list_any (λ offer. not (is_lt (text_cmp giver offer.giver))) offers

abbrev pub is_told : List Offer → Offer → Bool
is_told [] offer = false
is_told (first ∷ offers) offer = is_given (first ∷ offers) offer.giver && is_def_told first.def (first ∷ offers) offer.def
