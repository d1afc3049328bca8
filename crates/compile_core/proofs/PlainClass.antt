-- The name class of a condition's define is plain where the condition is formed.
use Rattle.std.proofs.Common.{ℕ, List, [], ◌∷◌, map, ◌≡◌, refl, subst}
use Rattle.std.proofs.lemmas.List.Elements.{All-map, All-filter, All-weaker}
use Rattle.std.specs.Prelude.{All}
use Rattle.compile_defines.specs.Compiled.{condition_body, content_throughout, space_part, spaces_left}
use Rattle.odd_content.specs.Formed.{IsExceptedName, IsExceptedNamespace, IsFormedCondition, IsNamespace}
use Rattle.odd_content.specs.declared.content.Condition.{Condition}
use Rattle.odd_text.specs.declared.name.Name.{Name}
use Rattle.odd_tokens.specs.Characters.{IsLegal}
use Rattle.odd_text.specs.Same.{is_same}
use Rattle.rng_emit.proofs.Printable.{IsPlainClass, IsPlainName, IsPlainPart}
use Rattle.rng_grammar.specs.declared.grammar.AttrPart.TheVariants as attributes
use Rattle.rng_grammar.specs.declared.grammar.Body.{Body}
use Rattle.rng_grammar.specs.declared.grammar.Body.TheVariants as body
use Rattle.rng_grammar.specs.declared.grammar.Expr.TheVariants as expr
use Rattle.rng_grammar.specs.declared.grammar.NameClass.{NameClass}
use Rattle.rng_grammar.specs.declared.grammar.NameClass.TheVariants as class
use Rattle.rng_grammar.specs.declared.grammar.NsPart.{NsPart}

-- the names that a condition excepts
names_plain : (c : Condition) → IsFormedCondition c → All IsPlainName c.names
names_plain c f = All-weaker IsExceptedName IsPlainName (λ name n. record { named = n.named; legal = n.legal }) c.names f.names

-- the required namespaces of a condition that are left, each without its excepted names
parts_plain : (c : Condition) → IsFormedCondition c → All IsPlainPart (map (space_part c) (spaces_left c))
parts_plain c f =
    let part_plain : (space : List ℕ) → IsLegal space → IsPlainPart (space_part c space) =
    λ space legal. record { legal = legal; but = All-filter (λ n. is_same n.ns space) IsPlainName c.names (names_plain c f) } in
    All-map IsPlainPart (space_part c) (spaces_left c)
    (All-weaker IsLegal (λ space. IsPlainPart (space_part c space)) part_plain (spaces_left c) (All-filter _ IsLegal c.require (All-weaker IsNamespace IsLegal (λ space n. n.legal) c.require f.require)))

-- what a body is that takes the elements of a condition
pub data IsBodyOf (name : List ℕ) (c : Condition) (b : Body) : Type 0 where
  nothing : b ≡ body.Part expr.NotAllowed → IsBodyOf name c b
  element : (which : NameClass) → (IsFormedCondition c → IsPlainClass which) → b ≡ body.Element which attributes.AnyAttributes (content_throughout name) → IsBodyOf name c b

-- by what is required
pub condition_body_is : (name : List ℕ) (c : Condition) → IsBodyOf name c (condition_body name c)
condition_body_is name c = by c.require c.spaces c.names
  where
    by : (require spaces : List (List ℕ)) (excepted : List Name)
        → IsBodyOf name (record { require = require; spaces = spaces; names = excepted }) (condition_body name (record { require = require; spaces = spaces; names = excepted }))
    by [] spaces excepted = element (class.AnyBut spaces excepted) (λ f. (All-weaker IsExceptedNamespace IsLegal (λ space n. n.is_namespace.legal) spaces f.spaces, names_plain _ f)) refl
    by (space ∷ more) spaces excepted = by_parts (map (space_part required) (spaces_left required)) refl
      where
        required : Condition
        required = record { require = space ∷ more; spaces = spaces; names = excepted }

        by_parts : (parts : List NsPart) → map (space_part required) (spaces_left required) ≡ parts → IsBodyOf name required (condition_body name required)
        by_parts [] e = rw e (nothing refl)
        by_parts (part ∷ parts) e = rw e (element (class.Within (part ∷ parts)) (λ f. ((λ none. cc), subst (All IsPlainPart) e (parts_plain required f))) refl)
