-- What holds of all patterns that are made of patterns of which it holds holds of the pattern of a content, where it holds of references and of data.
use Rattle.std.proofs.Common.{◌≡◌, ℕ, Bool, true, false, List, [], ◌++◌, Option, Some, None, filter, if◌then◌else◌, refl, ◌∷◌}
use Rattle.std.proofs.lemmas.List.Elements.{All-nil, All-cons}
use Rattle.std.specs.Prelude.{All}
use Rattle.compile_defines.proofs.Standing.{filter_stands, stands_left, stands_right}
use Rattle.compile_defines.specs.Conditions.{conditions_in, conditions_in_parts}
use Rattle.compile_defines.specs.Contents.{class_name, condition_pattern, content_pattern, element_pattern, holds_element, holds_macro, macro_name, macro_pattern, members_pattern, part_patterns, reference}
use Rattle.compile_defines.specs.Repeating.{choice_pattern, group_pattern}
use Rattle.odd_content.specs.Picking.{is_picked}
use Rattle.odd_content.specs.declared.content.Condition.{Condition}
use Rattle.odd_content.specs.declared.content.Content.{Content, Empty, Text, Value, Vals, Element, Class, Macro, Any, Sequence', Alternate', Row_of-Content, end_of-Content, more_of-Content}
use Rattle.odd_content.specs.declared.content.Pick.{Pick}
use Rattle.odd_content.specs.declared.content.Pick.TheVariants as pick
use Rattle.odd_library.specs.declared.library.Library.{Library}
use Rattle.odd_meaning.specs.Classes.{Members}
use Rattle.odd_meaning.specs.Links.{macro_key, named_in, named_in_parts}
use Rattle.odd_text.specs.declared.key.Key.{Key}
use Rattle.odd_text.proofs.InList.{stands_first}
use Rattle.odd_text.specs.Standing.{StandsIn}
use Rattle.rng_grammar.specs.declared.grammar.Expr.{Expr}
use Rattle.rng_grammar.specs.declared.grammar.Expr.TheVariants as expr
use Rattle.compile_laws.proofs.Closed.{IsClosed, choice_good, group_good, references_good, repeated_good}

abbrev mutual
  -- the items and the lists of values in a content, at any depth
  pub data_in : Content → List Content
  data_in Empty = []
  data_in Text = []
  data_in (Value item) = Value item ∷ []
  data_in (Vals list) = Vals list ∷ []
  data_in (Element key b) = []
  data_in (Class key p b) = []
  data_in (Macro key b) = []
  data_in (Any c b) = []
  data_in (Sequence' shape parts b) = data_in_parts parts
  data_in (Alternate' shape parts b) = data_in_parts parts

  pub data_in_parts : {n : _} → Row_of-Content n → List Content
  data_in_parts end_of-Content = []
  data_in_parts (more_of-Content part parts) = data_in part ++ data_in_parts parts

-- it holds of references to held elements, to listed classes and their members, and to the macros and the conditions among these, and of the patterns of these data
pub record IsGoodFor (Good : Expr → Type 0) (library : Library) (conditions : List Condition) (members : Members) (named : List Key) (inside : List Condition) (leaves : List Content) : Type 0 where
  pub elements : (key : List ℕ) → holds_element library key ≡ true → Good (reference key)
  pub classes : (key : List ℕ) (idents : List (List ℕ)) → members key ≡ Some idents → Good (expr.Ref (class_name key))
  pub each_member : (key : List ℕ) (idents : List (List ℕ)) (ident : List ℕ) → members key ≡ Some idents → StandsIn idents ident → Good (reference ident)
  pub macros : (key : List ℕ) → StandsIn named (macro_key key) → holds_macro library key ≡ true → Good (expr.Ref (macro_name key))
  pub each_condition : (c : Condition) → StandsIn inside c → Good (condition_pattern conditions c)
  pub each_data : (c : Content) → StandsIn leaves c → Good (content_pattern library conditions members c)

module _ (Good : Expr → Type 0) (closed : IsClosed Good) (text : Good expr.Text) (library : Library) (conditions : List Condition) (members : Members) where
  abbrev Holds : List Key → List Condition → List Content → Type 0
  Holds = IsGoodFor Good library conditions members

  -- so in a part, of whose names, conditions and data each is among these
  fewer : (some named : List Key) (few inside : List Condition) (less leaves : List Content) → ((k : Key) → StandsIn some k → StandsIn named k)
      → ((c : Condition) → StandsIn few c → StandsIn inside c) → ((c : Content) → StandsIn less c → StandsIn leaves c) → Holds named inside leaves → Holds some few less
  fewer some named few inside less leaves keys cs more h = record {
    elements = h.elements;
    classes = h.classes;
    each_member = h.each_member;
    macros = λ key s. h.macros key (keys (macro_key key) s);
    each_condition = λ c s. h.each_condition c (cs c s);
    each_data = λ c s. h.each_data c (more c s);
  }

  -- a reference where something is held, and else nothing
  if_held : (p : Expr) (held : Bool) → (held ≡ true → Good p) → Good (if held then p else expr.NotAllowed)
  if_held p true h = h refl
  if_held p false h = closed.not_allowed

  -- the members of a class, by what is listed
  members_good : (key : List ℕ) (p : Pick) (listed : Option (List (List ℕ))) → ((idents : List (List ℕ)) → listed ≡ Some idents → Good (expr.Ref (class_name key)))
      → ((idents : List (List ℕ)) (ident : List ℕ) → listed ≡ Some idents → StandsIn idents ident → Good (reference ident)) → Good (members_pattern key p listed)
  members_good key p None all each = closed.not_allowed
  members_good key pick.All (Some idents) all each = all idents refl
  members_good key (pick.Include words) (Some idents) all each =
      let test = is_picked (pick.Include words) in
      references_good Good closed (filter test idents) (λ ident s. each idents ident refl (filter_stands test idents ident s))
  members_good key (pick.Except words) (Some idents) all each =
      let test = is_picked (pick.Except words) in
      references_good Good closed (filter test idents) (λ ident s. each idents ident refl (filter_stands test idents ident s))

  mutual
    -- by what a content is made of
    pub content_good : (c : Content) → IsGoodFor Good library conditions members (named_in c) (conditions_in c) (data_in c) → Good (content_pattern library conditions members c)
    content_good Empty h = closed.empty
    content_good Text h = text
    content_good (Value item) h = h.each_data (Value item) (stands_first (Value item) [])
    content_good (Vals list) h = h.each_data (Vals list) (stands_first (Vals list) [])
    content_good (Element key b) h = repeated_good Good closed (element_pattern library key) b (if_held (reference key) (holds_element library key) (h.elements key))
    content_good (Class key p b) h = repeated_good Good closed (members_pattern key p (members key)) b (members_good key p (members key) (h.classes key) (h.each_member key))
    content_good (Macro key b) h =
        repeated_good Good closed (macro_pattern library key) b (if_held (expr.Ref (macro_name key)) (holds_macro library key) (h.macros key (stands_first (macro_key key) [])))
    content_good (Any c b) h = repeated_good Good closed (condition_pattern conditions c) b (h.each_condition c (stands_first c []))
    content_good (Sequence' shape parts b) h =
        let ps = part_patterns library conditions members parts in repeated_good Good closed (group_pattern ps) b (group_good Good closed ps (parts_good parts h))
    content_good (Alternate' shape parts b) h =
        let ps = part_patterns library conditions members parts in repeated_good Good closed (choice_pattern ps) b (choice_good Good closed ps (parts_good parts h))

    -- and each of its parts
    parts_good : {n : _} (parts : Row_of-Content n) → Holds (named_in_parts parts) (conditions_in_parts parts) (data_in_parts parts) → All Good (part_patterns library conditions members parts)
    parts_good end_of-Content h = All-nil Good
    parts_good (more_of-Content part parts) h =
        let keys = named_in part in
        let others = named_in_parts parts in
        let cs = conditions_in part in
        let rest = conditions_in_parts parts in
        let leaves = data_in part in
        let more = data_in_parts parts in
        All-cons Good (content_pattern library conditions members part) (part_patterns library conditions members parts)
        (content_good part (fewer keys (keys ++ others) cs (cs ++ rest) leaves (leaves ++ more) (λ k. stands_left keys others k) (λ c. stands_left cs rest c) (λ c. stands_left leaves more c) h))
        (parts_good parts (fewer others (keys ++ others) rest (cs ++ rest) more (leaves ++ more) (λ k. stands_right keys others k) (λ c. stands_right cs rest c) (λ c. stands_right leaves more c) h))
