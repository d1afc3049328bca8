-- References of a schema: one without a define, and defines that lead back to themselves.
use Rattle.std.proofs.Common.{◌≡◌, ℕ, List, [], ◌∷◌, map, None, inl, refl, sym, ap, subst, ◌∙◌, codes}
use Rattle.std.proofs.lemmas.List.Elements.{All-nil}
use Rattle.std.specs.FinMap.{find}
use Rattle.odd_text.specs.Text.{text_cmp}
use Rattle.odd_text.proofs.InList.{nothing_stands, only_item, stands_first}
use Rattle.odd_reader.proofs.Refusing.{one_tree}
use Rattle.odd_text.specs.Standing.{StandsIn}
use Rattle.odd_tree.specs.Spelled.{Spells}
use Rattle.odd_tree.specs.declared.tree.Tree.{Tree}
use Rattle.odd_tokens.proofs.Characters.{none_twice}
use Rattle.rng_grammar.proofs.OneGrammar.{Says, one_order, said, said_once}
use Rattle.rng_grammar.proofs.SchemaExamples.{not_given, only_ref}
use Rattle.rng_grammar.proofs.SchemaTrees.{bare_part, define, define_is, element, element_body, element_is, one_pattern, parts_are, ref, ref_is, rng, start, start_is}
use Rattle.rng_grammar.specs.Denoting as denoting
use Rattle.rng_grammar.specs.Denoting.{Denotes, IsDefine, StandsFor, entry_of}
use Rattle.rng_grammar.specs.Linked as linked
use Rattle.rng_grammar.proofs.SortLaws.{no_data_within}
use Rattle.rng_grammar.specs.Linked.{IsLinked, Reaches, RefersTo, names_of, patterns_of}
use Rattle.rng_grammar.specs.Sorts as sorts
use Rattle.rng_grammar.specs.Sorts.{IsOfBody, IsOfChildren, IsOfRule, IsSorted}
use Rattle.rng_grammar.specs.declared.grammar.Body.TheVariants as body
use Rattle.rng_grammar.specs.declared.grammar.Define.{Define}
use Rattle.rng_grammar.specs.declared.grammar.Expr.{Expr}
use Rattle.rng_grammar.specs.declared.grammar.Expr.TheVariants as expr
use Rattle.rng_grammar.specs.declared.grammar.Grammar.{Grammar}

-- a `ref` without a define stands for no grammar

abbrev lone : Tree
lone = rng (codes "grammar") [] (start (codes "a") ∷ [])

lone_says : Says lone (expr.Ref (codes "a")) []
lone_says = record { start = start (codes "a"); before = []; after = []; parts = parts_are (start (codes "a") ∷ []) refl; is_start = start_is (codes "a") refl; are_defines = denoting.none }

lone_stands : (g : Grammar) → StandsFor lone g → ⊥
lone_stands g s =
    let once = said_once lone g.start (expr.Ref (codes "a")) s.defines [] (said lone g s) lone_says in
    let found : (name : List ℕ) → find text_cmp name (map entry_of g.defines) ≡ None = λ name. s.same name ∙ ap (λ ds. find text_cmp name (map entry_of ds)) once.one_list in
    let none : g.defines ≡ [] = one_order g.defines [] s.rising refl found in
    let defined : StandsIn (names_of g.defines) (codes "a") = s.linked.start (codes "a") (subst (RefersTo (codes "a")) (sym once.one_pattern) linked.here) in
    nothing_stands (codes "a") (subst (λ ds. StandsIn (names_of ds) (codes "a")) none defined)

-- nor does a define that reaches itself

abbrev round : Tree
round = rng (codes "grammar") [] (start (codes "a") ∷ define (codes "a") (ref (codes "a")) ∷ [])

abbrev itself : Define
itself = record { name = codes "a"; body = body.Part (expr.Ref (codes "a")) }

itself_is : IsDefine [] (define (codes "a") (ref (codes "a"))) itself
itself_is = define_is (codes "a") _ _ refl refl (denoting.part (one_pattern _ _ (ref_is (codes "a") refl)))

round_says : Says round (expr.Ref (codes "a")) (itself ∷ [])
round_says = record {
  start = start (codes "a");
  before = [];
  after = define (codes "a") (ref (codes "a")) ∷ [];
  parts = parts_are (start (codes "a") ∷ define (codes "a") (ref (codes "a")) ∷ []) refl;
  is_start = start_is (codes "a") refl;
  are_defines = denoting.more itself_is denoting.none;
}

round_stands : (g : Grammar) → StandsFor round g → ⊥
round_stands g s =
    let once = said_once round g.start (expr.Ref (codes "a")) s.defines (itself ∷ []) (said round g s) round_says in
    let found : (name : List ℕ) → find text_cmp name (map entry_of g.defines) ≡ find text_cmp name (map entry_of (itself ∷ [])) =
    λ name. s.same name ∙ ap (λ ds. find text_cmp name (map entry_of ds)) once.one_list in
    let one : g.defines ≡ itself ∷ [] = one_order g.defines (itself ∷ []) s.rising refl found in
    s.linked.apart (codes "a") (linked.at_once (subst (λ ds. StandsIn ds itself) (sym one) (stands_first _ _)) linked.here)

-- nor do two defines of one name

abbrev twice : Tree
twice = rng (codes "grammar") [] (start (codes "a") ∷ define (codes "a") (ref (codes "a")) ∷ define (codes "a") (ref (codes "a")) ∷ [])

twice_says : Says twice (expr.Ref (codes "a")) (itself ∷ itself ∷ [])
twice_says = record {
  start = start (codes "a");
  before = [];
  after = define (codes "a") (ref (codes "a")) ∷ define (codes "a") (ref (codes "a")) ∷ [];
  parts = parts_are (start (codes "a") ∷ define (codes "a") (ref (codes "a")) ∷ define (codes "a") (ref (codes "a")) ∷ []) refl;
  is_start = start_is (codes "a") refl;
  are_defines = denoting.more itself_is (denoting.more itself_is denoting.none);
}

twice_stands : (g : Grammar) → StandsFor twice g → ⊥
twice_stands g s =
    let once = said_once twice g.start (expr.Ref (codes "a")) s.defines (itself ∷ itself ∷ []) (said twice g s) twice_says in
    s.once [] [] [] (codes "a") (ap names_of once.one_list)

-- so no bytes that spell one of the first two denote a grammar

denotes_none : (t : Tree) → ((g : Grammar) → StandsFor t g → ⊥) → (bytes : List ℕ) (g : Grammar) → Spells bytes t → Denotes bytes g → ⊥
denotes_none t none bytes g s d = none g (subst (λ u. StandsFor u g) (one_tree bytes d.tree t d.spelled s) d.stands)

lone_denotes : (bytes : List ℕ) (g : Grammar) → Spells bytes lone → Denotes bytes g → ⊥
lone_denotes = denotes_none lone lone_stands

round_denotes : (bytes : List ℕ) (g : Grammar) → Spells bytes round → Denotes bytes g → ⊥
round_denotes = denotes_none round round_stands

-- an element may hold itself: what a define reaches through an `element` is no round

abbrev inside_itself : Grammar
inside_itself = record { start = expr.Ref (codes "a"); defines = record { name = codes "a"; body = element_body (codes "a") (expr.Ref (codes "a")) } ∷ [] }

abbrev itself_parts : List Tree
itself_parts = start (codes "a") ∷ define (codes "a") (element (codes "a") (ref (codes "a"))) ∷ []

only_pattern : (d : Define) (p : Expr) → StandsIn inside_itself.defines d → StandsIn (patterns_of d.body) p → p ≡ expr.Ref (codes "a")
only_pattern d p s k = only_item _ _ (subst (λ (x : Define). StandsIn (patterns_of x.body) p) (only_item _ _ s) k)

itself_sort : IsOfChildren inside_itself (expr.Ref (codes "a"))
itself_sort = sorts.element (record { names = _; attrs = _; content = _; defined = ([], [], refl) })

itself_sorted : IsSorted inside_itself
itself_sorted = record {
  start = itself_sort;
  defines = λ d s. subst (λ (x : Define). IsOfBody inside_itself x.body) (sym (only_item _ _ s)) (All-nil (IsOfRule inside_itself), inl itself_sort);
}

itself_linked : IsLinked inside_itself
itself_linked = record { start = λ name r. first_defined name r; patterns = λ name d p s k r. first_defined name (subst (RefersTo name) (only_pattern d p s k) r); apart = λ name r. no_round name name r }
  where
    first_defined : (name : List ℕ) → RefersTo name (expr.Ref (codes "a")) → StandsIn (codes "a" ∷ []) name
    first_defined name r = subst (StandsIn (codes "a" ∷ [])) (sym (only_ref name (codes "a") r)) (stands_first _ _)

    no_round : (name other : List ℕ) → Reaches inside_itself name other → ⊥
    no_round name other (linked.at_once {p = p} d r) = let e : body.Part p ≡ element_body (codes "a") (expr.Ref (codes "a")) = ap (λ (x : Define). x.body) (only_item _ _ d) in cc
    no_round name other (linked.through r s) = no_round _ _ r

itself_stands : StandsFor (rng (codes "grammar") [] itself_parts) inside_itself
itself_stands = record {
  is_part = bare_part (codes "grammar") (codes "ns" ∷ codes "datatypeLibrary" ∷ []) itself_parts;
  datatypes = λ value e. not_given value e;
  has_datatypes = λ h. absurd (no_data_within inside_itself h.within (subst (IsOfChildren inside_itself) (sym (only_pattern h.define h.pattern h.among h.of_define)) itself_sort));
  start = start (codes "a");
  before = [];
  after = define (codes "a") (element (codes "a") (ref (codes "a"))) ∷ [];
  parts = parts_are itself_parts refl;
  is_start = start_is (codes "a") refl;
  defines = inside_itself.defines;
  are_defines = denoting.more (define_is (codes "a") (element (codes "a") (ref (codes "a"))) _ refl refl
      (denoting.element (element_is (codes "a") (ref (codes "a")) (expr.Ref (codes "a")) refl refl (ref_is (codes "a") refl)))) denoting.none;
  once = none_twice (codes "a" ∷ []) (tt, tt);
  rising = refl;
  same = λ name. refl;
  linked = itself_linked;
  sorted = itself_sorted;
}
