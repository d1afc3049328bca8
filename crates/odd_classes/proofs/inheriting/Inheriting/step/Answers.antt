use Rattle.std.proofs.Common.{◌≡◌, ◌<◌, ℕ, List, Some, get_or, [], length, ⊎_elim, sym, ap, subst, arith, ◌∙◌}
use Rattle.std.proofs.Math.ListN.{length-set}
use Rattle.std.proofs.lemmas.Option.{slice_get-get_or}
use Rattle.odd_library.specs.Odd.{element_key}
use Rattle.odd_meaning.specs.Links.{class_key}
use Rattle.odd_offers.proofs.TableOf.{own_offers}
use Rattle.odd_text.specs.declared.key.Key.{Key}
use Rattle.odd_text.specs.declared.key.Kind.{Kind}
use Rattle.odd_text.specs.declared.key.Kind.TheVariants as kind
use Rattle.odd_classes.proofs.Places.{entry_held, found_here}
use Rattle.odd_classes.proofs.Scanning.{one_entry}
use Rattle.odd_classes.proofs.Sweeping.{inherited, left_exact, passed_ready, put_exact, put_ready}
use Rattle.odd_classes.specs.Inheriting.{AreLeft, AreTablesAt, IsNodeAt}
use Rattle.odd_classes.specs.Placing.{IsEntryAt}
use Rattle.odd_classes.proofs.inheriting.Inheriting.step.Goals as goal

-- the node at a place of the order
node_here : (order : List ℕ) (at node : ℕ) → at < length order → node ≡ get_or order at node → IsNodeAt order at node
node_here order at node within is = slice_get-get_or order at node within ∙ ap Some (sym is)

-- keys of different kinds are not one
kinds_apart : (key : Key) (one other : Kind) (ident : List ℕ) → key.kind ≡ one → key ≡ record { kind = other; ident = ident } → one ≡ other
kinds_apart key one other ident is same = sym is ∙ ap (λ (k : Key). k.kind) same

pub unreachable-requires : goal.unreachable-requires
unreachable-requires c =
    let sw = c.requires.sweeps.1 in
    let within = sw.order.within c.index-place.result.now (c.args.at, c.requires.within, sym c.index-place.ensures) in
    omega (arith, within, sw.graph.as_many, ap length sw.entries, c.in_default.ensures.lookup.3)

pub index_mut-requires : goal.index_mut-requires
index_mut-requires c =
    let sw = c.requires.sweeps.1 in
    let within = sw.order.within c.index-place.result.now (c.args.at, c.requires.within, sym c.index-place.ensures) in
    omega (arith, within, sw.graph.as_many, sw.of_all, c.in_ok-tables.ensures.length)

pub returns-in-Element-clause-sweeps : goal.returns-in-Element-clause-sweeps
returns-in-Element-clause-sweeps c = λ library sw.
    let place = c.index-place.result.now in
    let here = node_here c.args.self.now.order.items c.args.at place c.requires.within c.index-place.ensures in
    let entry = subst (λ es. IsEntryAt es place c.in-Some.field-0.now.0 c.in-Some.field-0.now.1) sw.entries (found_here c.args.self.now.entries.now place c.in-Some.field-0.now c.in-Some.ensures.lookup.3) in
    let left = subst (λ l. AreLeft l c.args.at c.args.self.now.tables.items c.taken.new.tables.items) c.as_slice-last.ensures.value c.in_ok-tables.ensures.left in
    record {
      entries = sw.entries;
      rising = sw.rising;
      graph = sw.graph;
      order = sw.order;
      each = sw.each;
      last = sw.last;
      of_all = c.in_ok-tables.ensures.length ∙ sw.of_all;
      exact = left_exact library c.args.self.now.last.items c.args.at c.args.self.now.tables.items c.taken.new.tables.items left sw.exact;
      ready =
          passed_ready library c.args.self.now.arrows.now c.args.self.now.order.items c.args.self.now.last.items sw.order c.args.at place here c.in-Some.field-0.now.0 c.in-Some.field-0.now.1 entry
          c.args.self.now.tables.items c.taken.new.tables.items sw.last left sw.ready
          (λ class same. let no = kinds_apart c.in-Some.field-0.now.0 kind.Element kind.Class class c.in-Element.is same in cc);
    }

pub returns-in-Element-clause-told : goal.returns-in-Element-clause-told
returns-in-Element-clause-told c = λ library sw.
    let place = c.index-place.result.now in
    let key = c.in-Some.field-0.now.0 in
    let part = c.in-Some.field-0.now.1 in
    let here = node_here c.args.self.now.order.items c.args.at place c.requires.within c.index-place.ensures in
    let entry = subst (λ es. IsEntryAt es place key part) sw.entries (found_here c.args.self.now.entries.now place c.in-Some.field-0.now c.in-Some.ensures.lookup.3) in
    let arrows = c.args.self.now.arrows.now in
    let within = sw.order.within place (c.args.at, c.requires.within, sym c.index-place.ensures) in
    let nodes = c.as_slice.ensures ∙ c.in-Some-get.ensures.lookup.3.1 [] in
    let are = subst (λ ns. AreTablesAt c.args.self.now.tables.items ns c.in_ok-tables.tables.items) nodes c.in_ok-tables.ensures.made in (
      here,
      (
        key.ident,
        part,
        subst (λ k. IsEntryAt library.parts place k part) (ap (λ k. record { kind = k; ident = key.ident }) c.in-Element.is) entry,
        inherited library arrows sw.graph c.args.self.now.order.items sw.order c.args.self.now.tables.items sw.exact c.args.at place here key part entry sw.ready c.in_ok-tables.tables.items are c.in_ok-table.table
            c.in_ok-table.ensures,
      ),
    )

pub returns-in_ok-table-in-Class-clause-sweeps : goal.returns-in_ok-table-in-Class-clause-sweeps
returns-in_ok-table-in-Class-clause-sweeps c = λ library sw.
    let place = c.index-place.result.now in
    let key = c.in-Some.field-0.now.0 in
    let part = c.in-Some.field-0.now.1 in
    let here = node_here c.args.self.now.order.items c.args.at place c.requires.within c.index-place.ensures in
    let entry = subst (λ es. IsEntryAt es place key part) sw.entries (found_here c.args.self.now.entries.now place c.in-Some.field-0.now c.in-Some.ensures.lookup.3) in
    let left = subst (λ l. AreLeft l c.args.at c.args.self.now.tables.items c.taken.new.tables.items) c.as_slice-last.ensures.value c.in_ok-tables.ensures.left in
    let arrows = c.args.self.now.arrows.now in
    let order = c.args.self.now.order.items in
    let last = c.args.self.now.last.items in
    let old = c.args.self.now.tables.items in
    let new = c.taken.new.tables.items in
    let table = c.in_ok-table-in-Class.table in
    let within = sw.order.within place (c.args.at, c.requires.within, sym c.index-place.ensures) in
    let nodes = c.as_slice.ensures ∙ c.in-Some-get.ensures.lookup.3.1 [] in
    let are = subst (λ ns. AreTablesAt old ns c.in_ok-tables.tables.items) nodes c.in_ok-tables.ensures.made in
    let inherits = inherited library arrows sw.graph order sw.order old sw.exact c.args.at place here key part entry sw.ready c.in_ok-tables.tables.items are c.in_ok-table.table c.in_ok-table.ensures in
    let is_class : key ≡ class_key key.ident = ap (λ k. record { kind = k; ident = key.ident }) c.in-Class.is in
    let held = entry_held library.parts sw.rising place (class_key key.ident) part (subst (λ k. IsEntryAt library.parts place k part) is_class entry) in
    let offers = own_offers library key.ident part c.in_ok-table.table held inherits table c.in_ok-table-in-Class.ensures in
    let inside : place < length new = omega (arith, within, sw.graph.as_many, sw.of_all, c.in_ok-tables.ensures.length) in
    record {
      entries = sw.entries;
      rising = sw.rising;
      graph = sw.graph;
      order = sw.order;
      each = sw.each;
      last = sw.last;
      of_all = length-set new place (Some table) ∙ c.in_ok-tables.ensures.length ∙ sw.of_all;
      exact = put_exact library arrows order last sw.order c.args.at place here key part entry old new sw.last left sw.ready key.ident table is_class offers inside sw.exact;
      ready = put_ready library arrows order last sw.order c.args.at place here key part entry old new sw.last left sw.ready table inside;
    }

pub returns-in_ok-table-in-Class-clause-told : goal.returns-in_ok-table-in-Class-clause-told
returns-in_ok-table-in-Class-clause-told c = λ library sw.
    let place = c.index-place.result.now in
    let key = c.in-Some.field-0.now.0 in
    let part = c.in-Some.field-0.now.1 in
    let entry = subst (λ es. IsEntryAt es place key part) sw.entries (found_here c.args.self.now.entries.now place c.in-Some.field-0.now c.in-Some.ensures.lookup.3) in (
      place,
      node_here c.args.self.now.order.items c.args.at place c.requires.within c.index-place.ensures,
      λ e.
          let same = (one_entry library.parts place key (element_key e.0) part e.1 entry e.2).0 in
          let no = kinds_apart key kind.Class kind.Element e.0 c.in-Class.is same in cc,
    )

pub returns-in-Macro-clause-sweeps : goal.returns-in-Macro-clause-sweeps
returns-in-Macro-clause-sweeps c = λ library sw.
    let place = c.index-place.result.now in
    let here = node_here c.args.self.now.order.items c.args.at place c.requires.within c.index-place.ensures in
    let entry = subst (λ es. IsEntryAt es place c.in-Some.field-0.now.0 c.in-Some.field-0.now.1) sw.entries (found_here c.args.self.now.entries.now place c.in-Some.field-0.now c.in-Some.ensures.lookup.3) in
    let left = subst (λ l. AreLeft l c.args.at c.args.self.now.tables.items c.taken.new.tables.items) c.as_slice-last.ensures.value c.in_ok-tables.ensures.left in
    record {
      entries = sw.entries;
      rising = sw.rising;
      graph = sw.graph;
      order = sw.order;
      each = sw.each;
      last = sw.last;
      of_all = c.in_ok-tables.ensures.length ∙ sw.of_all;
      exact = left_exact library c.args.self.now.last.items c.args.at c.args.self.now.tables.items c.taken.new.tables.items left sw.exact;
      ready =
          passed_ready library c.args.self.now.arrows.now c.args.self.now.order.items c.args.self.now.last.items sw.order c.args.at place here c.in-Some.field-0.now.0 c.in-Some.field-0.now.1 entry
          c.args.self.now.tables.items c.taken.new.tables.items sw.last left sw.ready
          (λ class same.
          ⊎_elim (λ k. let no = kinds_apart c.in-Some.field-0.now.0 kind.Macro kind.Class class k same in cc)
          (λ k. let no = kinds_apart c.in-Some.field-0.now.0 kind.Datatype kind.Class class k same in cc) c.in-Macro.is);
    }

pub returns-in-Macro-clause-told : goal.returns-in-Macro-clause-told
returns-in-Macro-clause-told c = λ library sw.
    let place = c.index-place.result.now in
    let key = c.in-Some.field-0.now.0 in
    let part = c.in-Some.field-0.now.1 in
    let entry = subst (λ es. IsEntryAt es place key part) sw.entries (found_here c.args.self.now.entries.now place c.in-Some.field-0.now c.in-Some.ensures.lookup.3) in (
      place,
      node_here c.args.self.now.order.items c.args.at place c.requires.within c.index-place.ensures,
      λ e.
          let same = (one_entry library.parts place key (element_key e.0) part e.1 entry e.2).0 in
          ⊎_elim (λ k. let no = kinds_apart key kind.Macro kind.Element e.0 k same in cc) (λ k. let no = kinds_apart key kind.Datatype kind.Element e.0 k same in cc) c.in-Macro.is,
    )
