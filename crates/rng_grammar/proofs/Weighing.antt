-- The places of defines by name, the arrows between them, and their weights in an order in which each stands after those that it refers to.
use Rattle.std.proofs.Common.{◌≡◌, ◌↔◌, ◌∙◌, ℕ, ◌+◌, ◌-◌, ◌<◌, ◌≤◌, zero, suc, eqb, take, true, false, List, [], ◌∷◌, Option, Some, None, map, length, get_or, set, drop, inl, inr, ⊎_elim, refl, sym, ap, subst, arith, if◌then◌else◌}
use Rattle.std.proofs.lemmas.Bool.Decides.{eqb_tells}
use Rattle.std.proofs.Math.Seq.{split_at}
use Rattle.std.proofs.lemmas.List.{get_or_default, get_or-set_other, get_or-set_same, get_or-take, length-append, length-set, length-take-le, take_more}
use Rattle.std.proofs.lemmas.List.Elements.{Contains-get_or, Contains-push_cases}
use Rattle.std.proofs.lemmas.Map.Keys.{IsDistinct-from_apart}
use Rattle.std.proofs.lemmas.Map.Steps.{length-le_from_distinct_below}
use Rattle.std.proofs.lemmas.Map.Views.{Contains-from_any, tells_apart}
use Rattle.std.proofs.lemmas.Slice.Zip.{AllZip-left, AllZip-long}
use Rattle.std.proofs.lemmas.Bool.{cases_Bool, false_from_ne_true}
use Rattle.std.proofs.lemmas.Option.{MatchOption-at_none, MatchOption-at_some, get_or_from_slice_get, same_Some, slice_get_cases, slice_get_read, slice_get_within}
use Rattle.std.specs.Cmp.{unsigned_Decides}
use Rattle.std.specs.FinMap.{find, nat_cmp-IsAntisymmetric, slice_cmp-IsAntisymmetric}
use Rattle.std.specs.List.{Contains}
use Rattle.std.specs.Ordering.{eq_by_cmp}
use Rattle.std.specs.Option.{IsSomeAnd}
use Rattle.std.specs.Prelude.{MatchOption, slice_get}
use Rattle.odd_graph.proofs.Chains.{last_step}
use Rattle.odd_graph.specs.Graph as graph
use Rattle.odd_graph.specs.Graph.{HasArrow, Leads}
use Rattle.odd_graph.specs.Ordering.{IsApart, IsOrder}
use Rattle.odd_text.specs.Map.{SetsOnly}
use Rattle.odd_text.specs.Text.{text_cmp}
use Rattle.odd_text.proofs.InList.{begins, standing}
use Rattle.odd_text.specs.Standing.{StandsIn}
use Rattle.rng_grammar.proofs.Counting.{body_alike}
use Rattle.rng_grammar.specs.Counted.{counted}
use Rattle.rng_grammar.specs.Denoting.{entry_of}
use Rattle.rng_grammar.specs.Linked as linked
use Rattle.rng_grammar.specs.Linked.{Reaches, RefersTo}
use Rattle.rng_grammar.specs.Nodes.{reference_nodes}
use Rattle.rng_grammar.specs.Weighing.{AreArrows, ArePlaces, AreWeights, HasArrows, IsFirst, LeadsOn, Places, body_weight, weight_in}
use Rattle.rng_grammar.specs.declared.grammar.Body.TheVariants as body
use Rattle.rng_grammar.specs.declared.grammar.Body.{Body}
use Rattle.rng_grammar.specs.declared.grammar.Define.{Define}
use Rattle.rng_grammar.specs.declared.grammar.Expr.{Expr}
use Rattle.rng_grammar.specs.declared.grammar.Grammar.{Grammar}

-- a name that is not told apart from another is that
same_name : (name other : List ℕ) → eq_by_cmp text_cmp name other ≡ true → name ≡ other
same_name = tells_apart (slice_cmp-IsAntisymmetric nat_cmp-IsAntisymmetric)

-- the places of the names of the first defines
abbrev pub PlacesSoFar : List Define → ℕ → Places → Type 0
PlacesSoFar defines i places = (name : List ℕ) → MatchOption (find text_cmp name places) (find text_cmp name (map entry_of defines) ≡ find text_cmp name (map entry_of (drop i defines))) (IsFirst defines name)

module _ (defines : List Define) (i : ℕ) (d : Define) (within : i < length defines) (is : d ≡ get_or defines i d) (places : Places) (far : PlacesSoFar defines i places) where
  here : (name : List ℕ) → find text_cmp name (map entry_of (drop i defines)) ≡ (if eq_by_cmp text_cmp name d.name then Some d.body else find text_cmp name (map entry_of (drop (i + 1) defines)))
  here name = ap (λ ds. find text_cmp name (map entry_of ds)) (begins defines i d within is)

  -- a name that is not that of the next define, or has a place
  passed : (name : List ℕ) → (find text_cmp name places ≡ None → eq_by_cmp text_cmp name d.name ≡ false)
      → MatchOption (find text_cmp name places) (find text_cmp name (map entry_of defines) ≡ find text_cmp name (map entry_of (drop (i + 1) defines))) (IsFirst defines name)
  passed name other = by (find text_cmp name places) refl
    where
      by : (o : Option ℕ) → find text_cmp name places ≡ o → MatchOption o (find text_cmp name (map entry_of defines) ≡ find text_cmp name (map entry_of (drop (i + 1) defines))) (IsFirst defines name)
      by (Some at) e = MatchOption-at_some _ _ at e (far name)
      by None e = MatchOption-at_none _ _ e (far name) ∙ here name ∙ rw (other e) refl

  -- the next define has a name that has a place
  pub place_kept : (find text_cmp d.name places ≡ None → ⊥) → PlacesSoFar defines (i + 1) places
  place_kept some name = passed name (λ none. elim (cases_Bool (eq_by_cmp text_cmp name d.name)) [ inl e ↦ absurd (some (rw (← same_name name d.name e) none)) | inr e ↦ e ])

  -- its name gets a place
  pub place_put : (made : Places) → find text_cmp d.name places ≡ None → SetsOnly text_cmp places made d.name i → PlacesSoFar defines (i + 1) made
  place_put made none sets name = elim (cases_Bool (eq_by_cmp text_cmp name d.name)) [
    | inl e ↦
        let same = same_name name d.name e in
        let at : find text_cmp name made ≡ Some i = sets name ∙ rw e refl in
        rw at (record {
          body = d.body;
          there = slice_get_read defines _ i d refl within is ∙ (λ k. Some (record { name = sym same k; body = d.body }));
          found = MatchOption-at_none _ _ (ap (λ n. find text_cmp n places) same ∙ none) (far name) ∙ here name ∙ rw e refl;
        })
    | inr e ↦
        let kept : find text_cmp name made ≡ find text_cmp name places = sets name ∙ rw e refl in
        rw kept (passed name (λ _. e))
  ]

-- an order of nodes of a graph has at most as many as there are
order_fits : (arrows : List (List ℕ)) (order : List ℕ) → IsOrder arrows order → length order ≤ length arrows
order_fits arrows order is =
    length-le_from_distinct_below order (length arrows) (IsDistinct-from_apart eqb order differ)
    (λ q e. is.within q (Contains-from_any (λ x y. (unsigned_Decides x y).0) q order e))
  where
    differ : (i j d : ℕ) → i < j → j < length order → eqb (get_or order i d) (get_or order j d) ≡ false
    differ i j d less within = false_from_ne_true _ (λ e.
        let y = get_or order j d in
        let there = get_or-take j order i y less ∙ get_or_default order i y d (omega arith) ∙ (unsigned_Decides (get_or order i d) y).0 e in
        is.once (take j order) (drop (suc j) order) y (split_at order j d within) (i, omega (arith, length-take-le j order (omega arith)), there))

-- a name that no define has is no node
none_found : (g : Grammar) (steps : ℕ) (name : List ℕ) → find text_cmp name (map entry_of g.defines) ≡ None → reference_nodes steps g name ≡ 0
none_found g zero name e = refl
none_found g (suc steps) name e = rw e refl

-- and that of a define has its nodes by one step less
one_found : (g : Grammar) (steps : ℕ) (name : List ℕ) (b : Body) → find text_cmp name (map entry_of g.defines) ≡ Some b → reference_nodes (suc steps) g name ≡ body_weight (reference_nodes steps g) b
one_found g steps name (body.Element names attrs content) e = rw e refl
one_found g steps name (body.Part p) e = rw e refl

-- The weights of the defines that come first in an order are those by as many steps as they are, or more.
pub record WeighedSoFar (g : Grammar) (before weights : List ℕ) : Type 0 where
  pub same : length weights ≡ length g.defines
  pub each : (at steps : ℕ) (d : Define) → Contains before at → slice_get g.defines at ≡ Some d → length before ≤ suc steps
      → get_or weights at 0 ≡ counted (body_weight (reference_nodes steps g) d.body)

module _ (g : Grammar) (places : Places) (arrows : List (List ℕ)) (are_places : ArePlaces g.defines places) (are_arrows : AreArrows places g.defines arrows) where
  -- a name with a place is that of the define there
  placed : (name : List ℕ) (place : ℕ) → find text_cmp name places ≡ Some place → IsFirst g.defines name place
  placed name place e = MatchOption-at_some _ _ place e (are_places name)

  as_many : length arrows ≡ length g.defines
  as_many = AllZip-long _ g.defines arrows are_arrows

  -- each node is the place of a define
  define_at : (at : ℕ) → at < length arrows → (d : Define) × (slice_get g.defines at ≡ Some d)
  define_at at within = elim (slice_get_cases g.defines at).1 [ inl found ↦ (found.0, found.2) | inr past ↦ absurd (omega (arith, past.0, as_many)) ]

  -- each define has its arrows
  from_define : (at : ℕ) (d : Define) → slice_get g.defines at ≡ Some d → HasArrows places d.body (get_or arrows at [])
  from_define at d there = by (slice_get arrows at) refl (MatchOption-at_some _ _ d there (AllZip-left _ g.defines arrows are_arrows at))
    where
      by : (o : Option (List ℕ)) → slice_get arrows at ≡ o → IsSomeAnd o (HasArrows places d.body) → HasArrows places d.body (get_or arrows at [])
      by None e has = absurd has
      by (Some own) e has = rw (get_or_from_slice_get arrows at own [] e) has

  -- an arrow leads to a define that the other reaches
  arrow_reaches : (one other : ℕ) (d e : Define) → slice_get g.defines one ≡ Some d → slice_get g.defines other ≡ Some e → HasArrow arrows one other → Reaches g d.name e.name
  arrow_reaches one other d e at_d at_e a = by d.body refl ((from_define one d at_d other).0 a.among)
    where
      by : (b : Body) → d.body ≡ b → LeadsOn places b other → Reaches g d.name e.name
      by (body.Element names attrs content) is l = absurd l
      by (body.Part p) is l =
          let first = placed l.name other l.at in
          let same : record { name = l.name; body = first.body } ≡ e = same_Some _ e (sym first.there ∙ at_e) in
          let whole : d ≡ record { name = d.name; body = body.Part p } = λ k. record { name = d.name; body = is k } in
          let inside = slice_get_within g.defines one d at_d in
          rw (ap (λ (x : Define). x.name) (sym same)) (linked.at_once (subst (StandsIn g.defines) whole (standing g.defines d (one, inside, get_or_from_slice_get g.defines one d d at_d))) l.refers)

  leads_reaches : (one other : ℕ) (d e : Define) → slice_get g.defines one ≡ Some d → slice_get g.defines other ≡ Some e → Leads arrows one other → Reaches g d.name e.name
  leads_reaches one other d e at_d at_e (graph.at_once a) = arrow_reaches one other d e at_d at_e a
  leads_reaches one other d e at_d at_e (graph.through between a l) =
      let b = define_at between a.within in linked.through (arrow_reaches one between d b.0 at_d b.1 a) (leads_reaches between other b.0 e b.1 at_e l)

  -- so no define leads to a cycle
  all_apart : ((name : List ℕ) → Reaches g name name → ⊥) → (at : ℕ) → IsApart arrows at
  all_apart apart at other _ l = let d = define_at other (last_step (HasArrow arrows) other other l).1.within in apart d.0.name (leads_reaches other other d.0 d.0 d.1 d.1 l)

  -- so is that of a reference to one of them
  known : (before weights : List ℕ) → WeighedSoFar g before weights → (steps : ℕ) (name : List ℕ) → length before ≤ steps
      → ((place : ℕ) → find text_cmp name places ≡ Some place → place < length arrows → Contains before place) → counted (weight_in places weights name) ≡ counted (reference_nodes steps g name)
  known before weights far steps name enough among = by (find text_cmp name places) refl steps enough
    where
      by : (o : Option ℕ) → find text_cmp name places ≡ o → (steps : ℕ) → length before ≤ steps → counted (weight_in places weights name) ≡ counted (reference_nodes steps g name)
      by None e steps enough = rw e (ap counted (sym (none_found g steps name (MatchOption-at_none _ _ e (are_places name)))))
      by (Some place) e steps enough =
          let first = placed name place e in
          let before_it = among place e (omega (arith, as_many, slice_get_within g.defines place _ first.there)) in
          let less : suc (steps - 1) ≡ steps = omega (arith, before_it.1) in
          let weight = far.each place (steps - 1) (record { name = name; body = first.body }) before_it first.there (omega arith) in
          rw (e, ← less, one_found g (steps - 1) name first.body first.found) (omega arith)

  -- and with the weight of the next define those of one more
  pub weighed_next : (order : List ℕ) (i : ℕ) (weights made : List ℕ) → IsOrder arrows order → i < length order → WeighedSoFar g (take i order) weights
      → ((d : Define) → slice_get g.defines (get_or order i 0) ≡ Some d → made ≡ set weights (get_or order i 0) (counted (body_weight (weight_in places weights) d.body)))
      → WeighedSoFar g (take (i + 1) order) made
  weighed_next order i weights made is within far makes = rw (take_more order i 0 within, makes d.0 d.1) (record {
    same = length-set weights node weight ∙ far.same;
    each = λ at steps e c found enough.
        elim (eqb_tells at node) [
          | inl t ↦
              let same : d.0 ≡ e = same_Some d.0 e (sym d.1 ∙ ap (slice_get g.defines) (sym t.1) ∙ found) in
              let inside : node < length weights = omega (arith, far.same, slice_get_within g.defines node d.0 d.1) in
              rw (t.1, get_or-set_same weights node weight 0 inside, ← same) (body_alike (weight_in places weights) (reference_nodes steps g) d.0.body (now steps (omega (arith, length-append before (node ∷ [])))))
          | inr t ↦
              let earlier : Contains before at = ⊎_elim (λ h. h) (λ h. absurd (t.1 (sym h))) (Contains-push_cases before node at c) in
              rw (get_or-set_other weights node at weight 0 t.1) (far.each at steps e earlier found (omega (arith, length-append before (node ∷ []))))
        ];
  })
    where
      before : List ℕ
      before = take i order

      node : ℕ
      node = get_or order i 0

      d : (d : Define) × (slice_get g.defines node ≡ Some d)
      d = define_at node (is.within node (Contains-get_or order i 0 within))

      weight : ℕ
      weight = counted (body_weight (weight_in places weights) d.0.body)

      now : (steps : ℕ) → length before ≤ steps → (p : Expr) (name : List ℕ) → d.0.body ≡ body.Part p → RefersTo name p
          → counted (weight_in places weights name) ≡ counted (reference_nodes steps g name)
      now steps short p name part r = known before weights far steps name short (λ place e inside. is.after before (drop (suc i) order) node place (split_at order i 0 within) (record {
        among = (from_define node d.0 d.1 place).1 (rw part (record { name = name; refers = r; at = e }));
        within = inside;
      }))

  -- at the end those of all
  pub all_weighed : ((name : List ℕ) → Reaches g name name → ⊥) → (order weights : List ℕ) → IsOrder arrows order
      → ((node : ℕ) → Contains order node ↔ ((node < length arrows) × IsApart arrows node)) → WeighedSoFar g order weights → AreWeights g places weights
  all_weighed apart order weights is each far name =
      known order weights far (length g.defines) name (omega (arith, as_many, order_fits arrows order is)) (λ place e inside. (each place).1 (inside, all_apart apart place))
