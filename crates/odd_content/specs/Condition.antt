-- The condition of `anyElement`, from the words of `require` and `except` under the declarations in force.
use Rattle.std.specs.Prelude.{◌≡◌, ℕ, List, Option, Some, None}
use Rattle.std.specs.List.{filter_map}
use Rattle.odd_text.specs.NameOrder.{name_cmp}
use Rattle.odd_text.specs.Text.{text_cmp}
use Rattle.odd_text.specs.declared.name.Bind.{Bind}
use Rattle.odd_text.specs.declared.name.Name.{Name}
use Rattle.odd_text.specs.Standing.{StandsIn}
use Rattle.odd_forms.specs.Excepting.{excepted_of}
use Rattle.odd_text.specs.Sorted.{IsSet, set_of}
use Rattle.odd_forms.specs.declared.excepted.Excepted.{Excepted}
use Rattle.odd_forms.specs.declared.excepted.Excepted.TheVariants as excepted
use Rattle.odd_content.specs.declared.content.Condition.{Condition as TheCondition}

abbrev pub space_of : Excepted → Option (List ℕ)
space_of (excepted.Space space) = Some space
space_of other = None

abbrev pub name_of : Excepted → Option Name
name_of (excepted.Name name) = Some name
name_of other = None

-- the namespaces among words of `except`, and the names
abbrev pub spaces_among : List Bind → List (List ℕ) → List (List ℕ)
spaces_among binds words = filter_map (λ word. space_of (excepted_of binds word)) words

abbrev pub names_among : List Bind → List (List ℕ) → List Name
names_among binds words = filter_map (λ word. name_of (excepted_of binds word)) words

abbrev pub condition_of : List Bind → (require except : List (List ℕ)) → TheCondition
condition_of binds require except = record {
  require = set_of text_cmp require;
  spaces = set_of text_cmp (spaces_among binds except);
  names = set_of name_cmp (names_among binds except);
}

-- each list of a condition is in rising order, each item once, and has what the words give and nothing else
pub record IsConditionOf (binds : List Bind) (required excepted_words : List (List ℕ)) (c : TheCondition) : Type 0 where
  pub require : IsSet text_cmp (StandsIn required) c.require
  pub spaces : IsSet text_cmp (λ space. (word : List ℕ) × StandsIn excepted_words word × (excepted_of binds word ≡ excepted.Space space)) c.spaces
  pub names : IsSet name_cmp (λ name. (word : List ℕ) × StandsIn excepted_words word × (excepted_of binds word ≡ excepted.Name name)) c.names
