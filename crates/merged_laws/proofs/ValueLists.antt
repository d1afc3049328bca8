-- A `valList` that is printed of a list of values is read as it, and breaks nothing.
use Rattle.std.proofs.Common.{◌≡◌, ◌≢◌, ℕ, Bool, true, false, not, if◌then◌else◌, List, [], ◌∷◌, map, ⊎_elim, refl, sym, ap, ap₂, subst, ◌∙◌}
use Rattle.std.specs.Prelude.{All, IsTrue, codes, unwrap_or}
use Rattle.std.specs.List.{list_any}
use Rattle.std.specs.Option.{option_map}
use Rattle.std.specs.Str.{chars, encode_utf8_all}
use Rattle.std.proofs.lemmas.Bool.{cases_Bool, or_parts}
use Rattle.std.proofs.lemmas.Cmp.{nat_list_cmp_total}
use Rattle.std.proofs.lemmas.List.Elements.{All-contains}
use Rattle.std.specs.FinMap.{put}
use Rattle.odd_text.specs.Text.{text_cmp}
use Rattle.odd_tokens.proofs.Ascii.{is_printable}
use Rattle.odd_tokens.specs.Characters.{is_space}
use Rattle.odd_text.specs.Standing.{StandsIn}
use Rattle.odd_tree.specs.declared.tree.Tree.{Tree}
use Rattle.odd_text.proofs.InList.{contained, stands_first, stands_later}
use Rattle.odd_tree.proofs.PrintedTrees.{IsPlain, Shows}
use Rattle.rng_types.proofs.Spaced.{all_words, any_word, no_space, words_after}
use Rattle.rng_types.specs.Words.{ended, words_of}
use Rattle.rng_types.specs.declared.val_list.ListKind.{ListKind}
use Rattle.rng_types.specs.declared.val_list.ListKind.TheVariants as list
use Rattle.rng_types.specs.declared.val_list.ValList.{ValList}
use Rattle.rng_values.specs.Treated.{collapsed_text, spaced}
use Rattle.odd_forms.specs.Names.{tei_namespace}
use Rattle.odd_forms.specs.Tags.{tags_in}
use Rattle.odd_text.specs.Same.{is_among}
use Rattle.odd_forms.specs.declared.element.Element.{Element}
use Rattle.odd_forms.specs.declared.element.Element.TheVariants as kind
use Rattle.odd_content.specs.FormedData.{IsFormedList, IsListed}
use Rattle.odd_content.specs.Values.{kind_named, list_given, marks_in, with_value}
use Rattle.odd_overlay.specs.Marks.{words_laid}
use Rattle.odd_emit.specs.Contents.{list_markup, list_word, mode_said, type_said, value_markup}
use Rattle.odd_emit.specs.Saying.{Said, a_text, says}
use Rattle.merged_laws.proofs.Fits.{NoneAlike, values_tagged}
use Rattle.merged_laws.proofs.Kids.{none_twice, tags_give}
use Rattle.merged_laws.proofs.Lines.{all_scalar}
use Rattle.merged_laws.proofs.Puts.{AllPut, all_with, puts_all, with_sorted, words_made}
use Rattle.merged_laws.proofs.Says.{IsPlaced, IsSound, Says, says_plain, says_told, sound}
use Rattle.merged_laws.proofs.Told.{all_made_of, tag_said}

-- A value has a word

space_told : (c : ℕ) → not (is_space c) ≡ false → is_space c ≡ true
space_told c h = by (is_space c) h
  where
    by : (b : Bool) → not b ≡ false → b ≡ true
    by true h = refl
    by false h = cc

white_none : (cs : List ℕ) → list_any no_space cs ≡ false → words_after [] cs ≡ []
white_none [] h = refl
white_none (c ∷ cs) h =
    let k = or_parts (no_space c) (list_any no_space cs) h in
    ap (λ b. if b then ended [] (words_after [] cs) else words_after (c ∷ []) cs) (space_told c k.0) ∙ white_none cs k.1

pub listed_filled : (value : List ℕ) → IsListed value → words_of value ≢ []
listed_filled value h =
    let u = any_word value (h.legal.0, (all_scalar h.legal.0 h.legal.2, h.legal.1)) in
    ⊎_elim (λ some. u.0 some)
    (λ none. absurd (h.filled (sym h.collapsed ∙ ap (λ ws. encode_utf8_all (spaced ws)) (sym (all_words (chars value)) ∙ white_none (chars value) none))))
    (cases_Bool (list_any no_space (chars value)))

-- Values

abbrev value_said : List ℕ → List Said
value_said value = says (codes "ident") (a_text value) ∷ []

pub value_says : (value : List ℕ) → IsListed value → Says kind.ValItem (value_said value) []
value_says value h = record { sayable = refl; right = refl; formed = ((h.legal, listed_filled value h), tt); met = λ binds. tt; few = tt }

pub att_value_says : (value : List ℕ) → IsListed value → Says kind.AttValItem (value_said value) []
att_value_says value h = record { sayable = refl; right = refl; formed = ((h.legal, listed_filled value h), tt); met = λ binds. tt; few = tt }

-- Lists

abbrev list_said : ListKind → List Said
list_said k = type_said k ∷ mode_said (codes "add") ∷ []

pub list_printable : (k : ListKind) → IsTrue (is_printable (list_word k))
list_printable list.Closed = refl
list_printable list.Semi = refl
list_printable list.Open = refl

pub list_among : (k : ListKind) → IsTrue (is_among (codes "closed" ∷ codes "semi" ∷ codes "open" ∷ []) (list_word k))
list_among list.Closed = refl
list_among list.Semi = refl
list_among list.Open = refl

pub list_named : (k : ListKind) → kind_named (list_word k) ≡ k
list_named list.Closed = refl
list_named list.Semi = refl
list_named list.Open = refl

each_listed : (values : List (List ℕ)) → All IsListed values → (value : List ℕ) → StandsIn values value → IsListed value
each_listed values all value s = All-contains IsListed values value all (contained values value s)

pub all_collapsed : (values : List (List ℕ)) → ((value : List ℕ) → StandsIn values value → IsListed value) → map collapsed_text values ≡ values
all_collapsed [] h = refl
all_collapsed (v ∷ vs) h = ap₂ (λ x xs. x ∷ xs) (h v (stands_first v vs)).collapsed (all_collapsed vs (λ w s. h w (stands_later v w vs s)))

map_same : {A : Type 0} (xs : List A) → map (λ x. x) xs ≡ xs
map_same [] = refl
map_same (x ∷ xs) = ap (λ ys. x ∷ ys) (map_same xs)

-- no value stands twice
module _ (l : ValList) (f : IsFormedList l) where
  values_collapsed : map collapsed_text l.values ≡ l.values
  values_collapsed = all_collapsed l.values (each_listed l.values f.listed)

  values_apart : (e : Element) → values_tagged e (codes "ident") (map tag_said (map value_markup l.values)) ≡ l.values → NoneAlike (map collapsed_text (values_tagged e (codes "ident") (map tag_said (map value_markup l.values))))
  values_apart e is = subst (λ vs. NoneAlike (map collapsed_text vs)) (sym is) (subst NoneAlike (sym values_collapsed) (none_twice text_cmp nat_list_cmp_total l.values f.rising))

  pub list_says : Says kind.ValList (list_said l.kind) (map value_markup l.values)
  list_says = record {
    sayable = refl;
    right = refl;
    formed = ((list_among l.kind, list_printable l.kind), ((refl, refl), tt));
    met = λ binds. (values_apart kind.ValItem (tags_give value_markup _ (λ v. v) (λ v. refl) l.values ∙ map_same l.values), tt);
    few = tt;
  }

  pub att_list_says : Says kind.AttValList (list_said l.kind) (map value_markup l.values)
  att_list_says = record {
    sayable = refl;
    right = refl;
    formed = ((list_among l.kind, list_printable l.kind), ((refl, refl), tt));
    met = λ binds. (values_apart kind.AttValItem (tags_give value_markup _ (λ v. v) (λ v. refl) l.values ∙ map_same l.values), tt);
    few = tt;
  }

  -- its markup is plain
  pub list_plain : IsPlain (list_markup l)
  list_plain =
      says_plain kind.ValList (list_said l.kind) (map value_markup l.values) list_says
      (all_made_of value_markup IsPlain l.values (λ v s. says_plain kind.ValItem (value_said v) [] (value_says v (each_listed l.values f.listed v s)) tt))

  -- it breaks nothing, in a content and in a list of attributes
  pub list_sound : (left : ℕ) → IsSound kind.ValList left (list_markup l)
  list_sound left =
      sound kind.ValList left (list_said l.kind) (map value_markup l.values) list_says (λ e none. cc)
      (all_made_of value_markup (IsPlaced kind.ValList left) l.values
      (λ v s. (kind.ValItem, refl, sound kind.ValItem left (value_said v) [] (value_says v (each_listed l.values f.listed v s)) (λ e none. cc) tt)))

  pub att_list_sound : (left : ℕ) → IsSound kind.AttValList left (list_markup l)
  att_list_sound left =
      sound kind.AttValList left (list_said l.kind) (map value_markup l.values) att_list_says (λ e none. cc)
      (all_made_of value_markup (IsPlaced kind.AttValList left) l.values
      (λ v s. (kind.AttValItem, refl, sound kind.AttValItem left (value_said v) [] (att_value_says v (each_listed l.values f.listed v s)) (λ e none. cc) tt)))

-- what its children put in
values_put : (values : List (List ℕ)) → ((value : List ℕ) → StandsIn values value → IsListed value) → AllPut (with_value true) (map tag_said (map value_markup values)) (all_with true values)
values_put [] h = tt
values_put (v ∷ vs) h =
    ((λ made. ap (λ word. put text_cmp word true made) (h v (stands_first v vs)).collapsed), values_put vs (λ w s. h w (stands_later v w vs s)))

-- a tree that shows it gives it
pub list_back : (l : ValList) (t : Tree) → IsFormedList l → Shows tei_namespace [] (list_markup l) t → list_given t ≡ l
list_back l t f s =
    let told = says_told kind.ValList (list_said l.kind) (map value_markup l.values) t (list_says l f) s in
    let kind_is = ap (λ o. unwrap_or (option_map kind_named o) list.Open) (told.given (codes "type")) ∙ list_named l.kind in
    let marks_are : marks_in true (tags_in t) ≡ all_with true l.values =
    ap (marks_in true) told.tags ∙ puts_all (with_value true) (map tag_said (map value_markup l.values)) (all_with true l.values) [] (values_put l.values (each_listed l.values f.listed)) (with_sorted true l.values f.rising) in
    let made : ListKind → List (List ℕ) → ValList = λ k values. record { kind = k; values = values } in
    ap₂ made kind_is (ap (λ marks. words_laid marks []) marks_are ∙ words_made l.values f.rising)
