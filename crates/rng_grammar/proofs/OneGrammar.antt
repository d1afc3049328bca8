-- An element of a schema, a tree and bytes stand for one thing.
use Rattle.std.proofs.Common.{◌≡◌, ℕ, true, false, List, [], ◌∷◌, codes, unwrap_or, refl, sym, ap, subst, ◌∙◌, rules, ◌++◌, map}
use Rattle.std.proofs.lemmas.Cmp.{nat_list_cmp_total}
use Rattle.std.specs.FinMap.{find, is_sorted, slice_cmp-IsAntisymmetric, nat_cmp-IsAntisymmetric}
use Rattle.std.specs.Prelude.{IsTrue}
use Rattle.odd_reader.proofs.Refusing.{one_tree}
use Rattle.odd_text.proofs.Entries.{same_map}
use Rattle.odd_text.specs.Text.{text_cmp}
use Rattle.odd_text.specs.declared.name.Name.{Name}
use Rattle.odd_tree.specs.Elements.{given, shown_text}
use Rattle.odd_tree.specs.declared.tree.Node.{out-Node, Text}
use Rattle.odd_tree.specs.declared.tree.Node as N
use Rattle.odd_tree.specs.declared.tree.Tree.{Tree}
use Rattle.rng_grammar.proofs.OnePattern.{no_pattern, one_given, one_together, first_pattern, pattern_inside, two_names, one_pattern}
use Rattle.rng_grammar.specs.Denoting.{AreExcepted, AreOnePattern, AreSpaceParts, AreRules, HasAttributes, HasExcept, HasNames, HoldsValue, IsAnyAttributes, IsAttribute, IsElementOf, IsNameClass, IsNameOf, IsPattern, IsPart, IsRule, IsSpacePart, parts_of, AreDefines, Denotes, IsBody, IsDefine, IsStart, StandsFor, entry_of}
use Rattle.rng_grammar.specs.Denoting as denoting
use Rattle.rng_grammar.specs.declared.grammar.AttrPart.{AttrPart}
use Rattle.rng_grammar.specs.declared.grammar.AttrPart.TheVariants as attributes
use Rattle.rng_grammar.specs.declared.grammar.AttrRule.{AttrRule}
use Rattle.rng_grammar.specs.declared.grammar.Body.{Body}
use Rattle.rng_grammar.specs.declared.grammar.Body.TheVariants as body
use Rattle.rng_grammar.specs.declared.grammar.Define.{Define}
use Rattle.rng_grammar.specs.declared.grammar.Expr.{Expr}
use Rattle.rng_grammar.specs.declared.grammar.Grammar.{Grammar}
use Rattle.rng_grammar.specs.declared.grammar.NameClass.{NameClass}
use Rattle.rng_grammar.specs.declared.grammar.NameClass.TheVariants as class
use Rattle.rng_grammar.specs.declared.grammar.NsPart.{NsPart}

-- a text shows itself
text_is_shown : (text : List ℕ) → shown_text (out-Node (Text text)) ≡ text
text_is_shown text = search (rules, N.the_lemmas)

-- one child alone that is a text has one text
same_text : (a b : List ℕ) → Text a ∷ [] ≡ Text b ∷ [] → a ≡ b
same_text a b e = let child : Text a ≡ Text b = cc in sym (text_is_shown a) ∙ ap (λ n. shown_text (out-Node n)) child ∙ text_is_shown b

module _ (default : List ℕ) where
  -- a `name` is one name
  one_name_of : (t : Tree) (n m : Name) → IsNameOf default t n → IsNameOf default t m → n ≡ m
  one_name_of t n m h k =
      let spaces : n.ns ≡ m.ns = h.space ∙ sym k.space in
      let locals : n.local ≡ m.local = same_text n.local m.local (sym h.written ∙ k.written) in
      λ i. record { ns = spaces i; local = locals i }

  -- what an `except` leaves out
  record IsSameExcept (spaces others : List (List ℕ)) (names more : List Name) : Type 0 where
    same_spaces : spaces ≡ others
    same_names : names ≡ more

  -- what stands in an `except` leaves out one thing
  one_excepted : (ts : List Tree) (s r : List (List ℕ)) (n m : List Name) → AreExcepted default ts s n → AreExcepted default ts r m → IsSameExcept s r n m
  one_excepted ts s r n m denoting.none denoting.none = record { same_spaces = refl; same_names = refl }
  one_excepted ts s r n m (denoting.space h hs) (denoting.space k ks) =
      let rest = one_excepted _ _ _ _ _ hs ks in
      record { same_spaces = λ i. (h.is ∙ sym k.is) i ∷ rest.same_spaces i; same_names = rest.same_names }
  one_excepted ts s r n m (denoting.space h hs) (denoting.name k ks) = two_names _ _ _ _ _ refl h.is_leaf.is_part.is_named k.is_named
  one_excepted ts s r n m (denoting.name h hs) (denoting.space k ks) = two_names _ _ _ _ _ refl h.is_named k.is_leaf.is_part.is_named
  one_excepted ts s r n m (denoting.name h hs) (denoting.name k ks) =
      let rest = one_excepted _ _ _ _ _ hs ks in
      record { same_spaces = rest.same_spaces; same_names = λ i. one_name_of _ _ _ h k i ∷ rest.same_names i }

  -- and so does one `except`, or none
  one_except : (ts : List Tree) (s r : List (List ℕ)) (n m : List Name) → HasExcept default ts s n → HasExcept default ts r m → IsSameExcept s r n m
  one_except ts s r n m denoting.none denoting.none = record { same_spaces = refl; same_names = refl }
  one_except ts s r n m (denoting.one h e hs) (denoting.one k f ks) = one_excepted _ s r n m (subst (λ us. AreExcepted default us s n) (sym e ∙ f) hs) ks

module _ (default : List ℕ) where
  -- a `nsName` is one part
  one_part : (t : Tree) (p q : NsPart) → IsSpacePart default t p → IsSpacePart default t q → p ≡ q
  one_part t p q h k =
      let spaces : p.ns ≡ q.ns = h.space ∙ sym k.space in
      let same = one_except p.ns (parts_of t) [] [] p.but q.but h.but (subst (λ ns. HasExcept ns (parts_of t) [] q.but) (sym spaces) k.but) in
      λ i. record { ns = spaces i; but = same.same_names i }

  -- several are one list of parts
  one_parts : (ts : List Tree) (ps qs : List NsPart) → AreSpaceParts default ts ps → AreSpaceParts default ts qs → ps ≡ qs
  one_parts ts ps qs denoting.none denoting.none = refl
  one_parts ts ps qs (denoting.more h hs) (denoting.more k ks) = λ i. one_part _ _ _ h k i ∷ one_parts _ _ _ hs ks i

  -- an element is one name class
  one_class : (t : Tree) (n m : NameClass) → IsNameClass default t n → IsNameClass default t m → n ≡ m
  one_class t n m (denoting.any h but) (denoting.any k other) = let same = one_except default _ _ _ _ _ but other in λ i. class.AnyBut (same.same_spaces i) (same.same_names i)
  one_class t n m (denoting.any h but) (denoting.space k) = two_names _ _ _ _ _ refl h.is_named k.is_part.is_named
  one_class t n m (denoting.any h but) (denoting.spaces k ks) = two_names _ _ _ _ _ refl h.is_named k.is_named
  one_class t n m (denoting.space h) (denoting.any k other) = two_names _ _ _ _ _ refl h.is_part.is_named k.is_named
  one_class t n m (denoting.space h) (denoting.space k) = λ i. class.Within (one_part t _ _ h k i ∷ [])
  one_class t n m (denoting.space h) (denoting.spaces k ks) = two_names _ _ _ _ _ refl h.is_part.is_named k.is_named
  one_class t n m (denoting.spaces h hs) (denoting.any k other) = two_names _ _ _ _ _ refl h.is_named k.is_named
  one_class t n m (denoting.spaces h hs) (denoting.space k) = two_names _ _ _ _ _ refl h.is_named k.is_part.is_named
  one_class t n m (denoting.spaces h hs) (denoting.spaces k ks) = ap class.Within (one_parts _ _ _ hs ks)

  -- the names of an element, and what is left
  record IsSameNames (n m : NameClass) (ts us : List Tree) : Type 0 where
    same_class : n ≡ m
    same_rest : ts ≡ us

  -- an element has one name class by its `name` or its first part
  one_names : (t : Tree) (n m : NameClass) (ts us : List Tree) → HasNames default t n ts → HasNames default t m us → IsSameNames n m ts us
  one_names t n m ts us (denoting.by_name h) (denoting.by_name k) =
      let same = one_given t _ _ h k in
      record { same_class = λ i. class.One (record { ns = unwrap_or (given t (codes "ns")) default; local = same i }); same_rest = refl }
  one_names t n m ts us (denoting.by_name h) (denoting.by_part no_name no_space e k) = let f = sym h.is_given ∙ no_name in cc
  one_names t n m ts us (denoting.by_part no_name no_space e h) (denoting.by_name k) = let f = sym no_name ∙ k.is_given in cc
  one_names t n m ts us (denoting.by_part {part = part} no_name no_space e h) (denoting.by_part {part = other} no_more no_other f k) =
      let both = sym e ∙ f in
      let first : part ≡ other = cc in
      let rest : ts ≡ us = cc in
      record { same_class = one_class other n m (subst (λ u. IsNameClass default u n) first h) k; same_rest = rest }

-- an attribute is no pattern
no_attribute : (t : Tree) (p : Expr) (allowed : List (List ℕ)) → IsPart (codes "attribute") allowed t → IsPattern t p → ⊥
no_attribute t p allowed h k = no_pattern t p (codes "attribute") (h.is_named.named, refl, refl) (λ parts. refl) k

-- and so what stands for any attributes is none
no_content : (t : Tree) (p : Expr) → IsAnyAttributes t → IsPattern t p → ⊥
no_content t p h k =
    let inside = pattern_inside t h.attribute [] p (codes "zeroOrMore") (h.is_part.is_named.named, refl, refl) h.alone k in
    no_attribute h.attribute inside.0 _ h.is_attribute inside.1

-- nor is a rule
no_rule : (t : Tree) (rule : AttrRule) (p : Expr) → IsRule t rule → IsPattern t p → ⊥
no_rule t rule p (denoting.needed h) k = no_attribute t p _ h.is_part k
no_rule t rule p (denoting.optional attribute h e a) k =
    let inside = pattern_inside t attribute [] p (codes "optional") (h.is_named.named, refl, refl) e k in
    no_attribute attribute inside.0 _ a.is_part inside.1

-- what an attribute holds is one pattern
one_value : (ts : List Tree) (p q : Expr) → HoldsValue ts p → HoldsValue ts q → p ≡ q
one_value ts p q denoting.nothing denoting.nothing = refl
one_value ts p q (denoting.pattern h) (denoting.pattern k) = one_pattern _ p q h k

-- the name of an attribute, and the pattern of its value
record IsSameAttribute (n m : Name) (p q : Expr) : Type 0 where
  same_name : n ≡ m
  same_value : p ≡ q

one_attribute : (t : Tree) (n m : Name) (p q : Expr) → IsAttribute t n p → IsAttribute t m q → IsSameAttribute n m p q
one_attribute t n m p q h k =
    let locals : n.local ≡ m.local = one_given t n.local m.local h.named k.named in
    let spaces : n.ns ≡ m.ns = h.space ∙ sym k.space in
    record { same_name = λ i. record { ns = spaces i; local = locals i }; same_value = one_value (parts_of t) p q h.holds k.holds }

-- an element is one rule
one_rule : (t : Tree) (r s : AttrRule) → IsRule t r → IsRule t s → r ≡ s
one_rule t r s (denoting.needed h) (denoting.needed k) =
    let same = one_attribute t _ _ _ _ h k in λ i. record { name = same.same_name i; needed = true; value = same.same_value i }
one_rule t r s (denoting.needed h) (denoting.optional attribute k e a) = two_names t (codes "attribute") (codes "optional") _ _ refl h.is_part.is_named k.is_named
one_rule t r s (denoting.optional attribute h e a) (denoting.needed k) = two_names t (codes "optional") (codes "attribute") _ _ refl h.is_named k.is_part.is_named
one_rule t r s (denoting.optional {name = n} {value = p} attribute h e a) (denoting.optional {name = m} {value = q} other k f b) =
    let both : attribute ∷ [] ≡ other ∷ [] = sym e ∙ f in
    let inner : attribute ≡ other = cc in
    let same = one_attribute other n m p q (subst (λ u. IsAttribute u n p) inner a) b in
    λ i. record { name = same.same_name i; needed = false; value = same.same_value i }

-- rules, and what is left
record AreSameRules (rs ss : List AttrRule) (ts us : List Tree) : Type 0 where
  same_rules : rs ≡ ss
  same_left : ts ≡ us

-- before a content stand one list of rules
one_rules : (all ts us : List Tree) (rs ss : List AttrRule) (p q : Expr) → AreRules all rs ts → AreRules all ss us → AreOnePattern ts p → AreOnePattern us q → AreSameRules rs ss ts us
one_rules all ts us rs ss p q denoting.none denoting.none f g = record { same_rules = refl; same_left = refl }
one_rules all ts us rs ss p q denoting.none (denoting.more k ks) f g = let first = first_pattern _ _ _ _ refl f.are in absurd (no_rule _ _ first.0 k first.1)
one_rules all ts us rs ss p q (denoting.more h hs) denoting.none f g = let first = first_pattern _ _ _ _ refl g.are in absurd (no_rule _ _ first.0 h first.1)
one_rules all ts us rs ss p q (denoting.more h hs) (denoting.more k ks) f g =
    let rest = one_rules _ ts us _ _ p q hs ks f g in
    record { same_rules = λ i. one_rule _ _ _ h k i ∷ rest.same_rules i; same_left = rest.same_left }

-- the attributes of an element, and what is left
record IsSameAttributes (a b : AttrPart) (ts us : List Tree) : Type 0 where
  same_attributes : a ≡ b
  same_inside : ts ≡ us

-- no rules stand where any attributes do
rules_or_any : {R : Type 0} (t : Tree) (rest ts : List Tree) (rs : List AttrRule) (p : Expr) → AreRules (t ∷ rest) rs ts → IsAnyAttributes t → AreOnePattern ts p → R
rules_or_any t rest ts rs p denoting.none k f = let first = first_pattern _ _ _ _ refl f.are in absurd (no_content t first.0 k first.1)
rules_or_any t rest ts rs p (denoting.more (denoting.needed h) hs) k f = two_names t (codes "attribute") (codes "zeroOrMore") _ _ refl h.is_part.is_named k.is_part.is_named
rules_or_any t rest ts rs p (denoting.more (denoting.optional attribute h e a) hs) k f = two_names t (codes "optional") (codes "zeroOrMore") _ _ refl h.is_named k.is_part.is_named

-- before a content stands one pattern of attributes
one_attributes : (all ts us : List Tree) (a b : AttrPart) (p q : Expr) → HasAttributes all a ts → HasAttributes all b us → AreOnePattern ts p → AreOnePattern us q → IsSameAttributes a b ts us
one_attributes all ts us a b p q (denoting.listed h once) (denoting.listed k twice) f g =
    let same = one_rules all ts us _ _ p q h k f g in
    record { same_attributes = ap attributes.Listed same.same_rules; same_inside = same.same_left }
one_attributes all ts us a b p q (denoting.listed h once) (denoting.any k) f g = rules_or_any _ _ ts _ p h k f
one_attributes all ts us a b p q (denoting.any h) (denoting.listed k once) f g = rules_or_any _ _ us _ q k h g
one_attributes all ts us a b p q (denoting.any h) (denoting.any k) f g = record { same_attributes = refl; same_inside = refl }

-- an `element` is one body
pub one_element : (default : List ℕ) (t : Tree) (b c : Body) → IsElementOf default t b → IsElementOf default t c → b ≡ c
one_element default t b c h k =
    let names = one_names default t h.names k.names h.after_names k.after_names h.has_names k.has_names in
    let left : HasAttributes k.after_names h.attrs h.inside = subst (λ ts. HasAttributes ts h.attrs h.inside) names.same_rest h.has_attributes in
    let attributes = one_attributes k.after_names h.inside k.inside h.attrs k.attrs h.content k.content left k.has_attributes h.holds k.holds in
    let contents : h.content ≡ k.content = one_together k.inside h.content k.content (subst (λ ts. AreOnePattern ts h.content) attributes.same_inside h.holds) k.holds in
    h.body_is ∙ (λ i. body.Element (names.same_class i) (attributes.same_attributes i) (contents i)) ∙ sym k.body_is

-- an `element` is no pattern of content
pub no_element : {R : Type 0} (default : List ℕ) (t : Tree) (b : Body) (p : Expr) → IsElementOf default t b → AreOnePattern (t ∷ []) p → R
no_element default t b p h k =
    let first = first_pattern (t ∷ []) t [] (k.first ∷ k.more) refl k.are in
    absurd (no_pattern t first.0 (codes "element") (h.is_part.is_named.named, refl, refl) (λ parts. refl) first.1)

-- what a `define` holds is one body
one_body : (default : List ℕ) (ts : List Tree) (b c : Body) → IsBody default ts b → IsBody default ts c → b ≡ c
one_body default ts b c (denoting.element h) (denoting.element k) = one_element default _ b c h k
one_body default ts b c (denoting.element h) (denoting.part k) = no_element default _ b _ h k
one_body default ts b c (denoting.part h) (denoting.element k) = no_element default _ c _ k h
one_body default ts b c (denoting.part h) (denoting.part k) = ap body.Part (one_together ts _ _ h k)

-- a `define` is one define
one_define : (default : List ℕ) (t : Tree) (d e : Define) → IsDefine default t d → IsDefine default t e → d ≡ e
one_define default t d e h k =
    let names : d.name ≡ e.name = one_given t d.name e.name h.named k.named in
    let bodies : d.body ≡ e.body = one_body default (parts_of t) d.body e.body h.holds k.holds in
    λ i. record { name = names i; body = bodies i }

-- several are one list of defines
one_defines : (default : List ℕ) (ts : List Tree) (ds es : List Define) → AreDefines default ts ds → AreDefines default ts es → ds ≡ es
one_defines default ts ds es denoting.none denoting.none = refl
one_defines default ts ds es (denoting.more h hs) (denoting.more k ks) = λ i. one_define default _ _ _ h k i ∷ one_defines default _ _ _ hs ks i

-- a `start` is one pattern
one_start : (t : Tree) (p q : Expr) → IsStart t p → IsStart t q → p ≡ q
one_start t p q h k =
    let both : h.inside ∷ [] ≡ k.inside ∷ [] = sym h.alone ∙ k.alone in
    let same : h.inside ≡ k.inside = cc in
    one_pattern k.inside p q (subst (λ u. IsPattern u p) same h.is_pattern) k.is_pattern

-- what stands beside a `start`
record IsBeside (s u : Tree) (ts us : List Tree) : Type 0 where
  same_start : s ≡ u
  same_others : ts ≡ us

-- no `define` is a `start`
no_start : {R : Type 0} (default : List ℕ) (t u : Tree) (d : Define) (p : Expr) → t ≡ u → IsDefine default t d → IsStart u p → R
no_start default t u d p e h k = two_names u (codes "define") (codes "start") _ _ refl (subst (λ x. denoting.IsNamed (codes "define") (codes "name" ∷ []) x) e h.is_part.is_named) k.is_part.is_named

-- elements that are a `start` and defines have their `start` at one place
start_place : (default : List ℕ) (a b c d : List Tree) (s u : Tree) (ds es : List Define) (p q : Expr) → AreDefines default (a ++ b) ds → AreDefines default (c ++ d) es
    → IsStart s p → IsStart u q → a ++ s ∷ b ≡ c ++ u ∷ d → IsBeside s u (a ++ b) (c ++ d)
start_place default [] b [] d s u ds es p q h k f g e = record { same_start = cc; same_others = cc }
start_place default [] b (y ∷ c) d s u ds es p q h (denoting.more k ks) f g e = no_start default y s _ p (cc) k f
start_place default (x ∷ a) b [] d s u ds es p q (denoting.more h hs) k f g e = no_start default x u _ q (cc) h g
start_place default (x ∷ a) b (y ∷ c) d s u ds es p q (denoting.more h hs) (denoting.more k ks) f g e =
    let first : x ≡ y = cc in
    let rest : a ++ s ∷ b ≡ c ++ u ∷ d = cc in
    let beside = start_place default a b c d s u _ _ p q hs ks f g rest in
    record { same_start = beside.same_start; same_others = λ i. first i ∷ beside.same_others i }

-- equal entries are of equal defines
same_define : (d e : Define) → entry_of d ≡ entry_of e → d ≡ e
same_define d e h = λ i. record { name = (h i).0; body = (h i).1 }

-- and so for lists
same_defines : (ds es : List Define) → map entry_of ds ≡ map entry_of es → ds ≡ es
same_defines [] [] e = refl
same_defines [] (x ∷ es) e = cc
same_defines (d ∷ ds) [] e = cc
same_defines (d ∷ ds) (x ∷ es) e =
    let first : entry_of d ≡ entry_of x = cc in
    let rest : map entry_of ds ≡ map entry_of es = cc in
    λ i. same_define d x first i ∷ same_defines ds es rest i

-- defines in order of name that hold the same are the same
pub one_order : (ds es : List Define) → IsTrue (is_sorted text_cmp (map entry_of ds)) → IsTrue (is_sorted text_cmp (map entry_of es))
    → ((name : List ℕ) → find text_cmp name (map entry_of ds) ≡ find text_cmp name (map entry_of es)) → ds ≡ es
one_order ds es h k found = same_defines ds es (same_map text_cmp nat_list_cmp_total (slice_cmp-IsAntisymmetric nat_cmp-IsAntisymmetric) (map entry_of ds) (map entry_of es) h k found)

-- what a tree says of a start and of defines, in the order in which they stand
pub record Says (t : Tree) (p : Expr) (ds : List Define) : Type 0 where
  pub start : Tree
  pub before : List Tree
  pub after : List Tree
  pub parts : parts_of t ≡ before ++ start ∷ after
  pub is_start : IsStart start p
  pub are_defines : AreDefines (unwrap_or (given t (codes "ns")) []) (before ++ after) ds

abbrev pub said : (t : Tree) (g : Grammar) (s : StandsFor t g) → Says t g.start s.defines
said t g s = record { start = s.start; before = s.before; after = s.after; parts = s.parts; is_start = s.is_start; are_defines = s.are_defines }

-- it says one thing
pub record IsSaidOnce (p q : Expr) (ds es : List Define) : Type 0 where
  pub one_pattern : p ≡ q
  pub one_list : ds ≡ es

-- since its `start` stands at one place
pub said_once : (t : Tree) (p q : Expr) (ds es : List Define) → Says t p ds → Says t q es → IsSaidOnce p q ds es
said_once t p q ds es h k =
    let default = unwrap_or (given t (codes "ns")) [] in
    let beside = start_place default h.before h.after k.before k.after h.start k.start ds es p q h.are_defines k.are_defines h.is_start k.is_start (sym h.parts ∙ k.parts) in
    let starts : p ≡ q = one_start k.start p q (subst (λ s. IsStart s p) beside.same_start h.is_start) k.is_start in
    let others : AreDefines default (k.before ++ k.after) ds = subst (λ ts. AreDefines default ts ds) beside.same_others h.are_defines in
    record { one_pattern = starts; one_list = one_defines default (k.before ++ k.after) ds es others k.are_defines }

-- a tree stands for one grammar
pub one_grammar : (t : Tree) (g h : Grammar) → StandsFor t g → StandsFor t h → g ≡ h
one_grammar t g h p q =
    let once = said_once t g.start h.start p.defines q.defines (said t g p) (said t h q) in
    let found : (name : List ℕ) → find text_cmp name (map entry_of g.defines) ≡ find text_cmp name (map entry_of h.defines) =
    λ name. p.same name ∙ ap (λ ds. find text_cmp name (map entry_of ds)) once.one_list ∙ sym (q.same name) in
    let defines : g.defines ≡ h.defines = one_order g.defines h.defines p.rising q.rising found in
    λ i. record { start = once.one_pattern i; defines = defines i }

-- bytes denote one grammar
pub one_denoted : (bytes : List ℕ) (g h : Grammar) → Denotes bytes g → Denotes bytes h → g ≡ h
one_denoted bytes g h p q =
    let trees : p.tree ≡ q.tree = one_tree bytes p.tree q.tree p.spelled q.spelled in
    one_grammar q.tree g h (subst (λ t. StandsFor t g) trees p.stands) q.stands
