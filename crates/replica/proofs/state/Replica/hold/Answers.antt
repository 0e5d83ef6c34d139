use Rattle.std.proofs.Common.{◌≡◌, ℕ, List, map, set, Some, Option, ap, ◌∙◌}
use Rattle.std.specs.Option.{option_map}
use Rattle.std.proofs.lemmas.List.{map-set}
use Rattle.cells.specs.Rows.{Cells}
use Rattle.replica.specs.declared.state.Replica.{Replica}
use Rattle.replica.specs.Store.{Store, store}
use Rattle.replica.specs.Holding.{entered, with_sends, with_echoes, with_readies, with_haves}
use Rattle.replica.proofs.Putting.{heard_by}
use Rattle.replica.proofs.state.Replica.hold.Goals as goal

-- the replica, and its tables with one cell of one filled, seen by its bytes
filled :
    {K : Type 0} (b : K → List ℕ) (m : Replica) (t : Store) (with : Store → Cells → Store) (before after : List (Option K)) (at place : ℕ) (x : K)
    → after ≡ set before at (Some x) → at ≡ place
    → ◌≡◌ {A = Replica × Store} (m, with t (map (option_map b) after)) (m, with t (entered (map (option_map b) before) place (b x)))
filled b m t with before after at place x h e =
    ap (λ cells. (m, with t cells))
    (ap (map (option_map b)) h ∙ map-set (option_map b) before at (Some x) ∙ ap (λ k. entered (map (option_map b) before) k (b x)) e)

pub returns-in-Send : goal.returns-in-Send
returns-in-Send g c =
    let s = c.in-Send in
    let m = c.args.self.now in
    let t = store g.K.Entry.bytes c.args.tables.now in
    let value = filled g.K.Entry.bytes m t with_sends c.args.tables.now.sends.cells.now _ _ _ s.item c.hold.ensures.cells (rw c.grid-grid.ensures at c.slot_place.ensures.value) in
    rw s.is (record { value = value; heard = heard_by m t c.args.sender _ _ _ c.requires.lent c.requires.from (rw s.is at c.requires.ranged) value })

pub returns-in-Echo : goal.returns-in-Echo
returns-in-Echo g c =
    let s = c.in-Echo in
    let m = c.args.self.now in
    let t = store g.K.Entry.bytes c.args.tables.now in
    let value = filled g.K.Entry.bytes m t with_echoes c.args.tables.now.echoes.cells.now _ _ _ s.item c.hold-in-Echo.ensures.cells (rw c.grid-grid.ensures at c.place.ensures.value) in
    rw s.is (record { value = value; heard = heard_by m t c.args.sender _ _ _ c.requires.lent c.requires.from (rw s.is at c.requires.ranged) value })

pub returns-in-Ready : goal.returns-in-Ready
returns-in-Ready g c =
    let s = c.in-Ready in
    let m = c.args.self.now in
    let t = store g.K.Entry.bytes c.args.tables.now in
    let value = filled g.K.Entry.bytes m t with_readies c.args.tables.now.readies.cells.now _ _ _ s.item c.hold-in-Ready.ensures.cells (rw c.grid-grid.ensures at c.place-in-Ready.ensures.value) in
    rw s.is (record { value = value; heard = heard_by m t c.args.sender _ _ _ c.requires.lent c.requires.from (rw s.is at c.requires.ranged) value })

pub returns-in-Have : goal.returns-in-Have
returns-in-Have g c =
    let s = c.in-Have in
    let m = c.args.self.now in
    let t = store g.K.Entry.bytes c.args.tables.now in
    let value = filled g.K.Entry.bytes m t with_haves c.args.tables.now.haves.cells.now _ _ _ s.item c.hold-in-Have.ensures.cells (rw c.grid-grid.ensures at c.place-in-Have.ensures.value) in
    rw s.is (record { value = value; heard = heard_by m t c.args.sender _ _ _ c.requires.lent c.requires.from (rw s.is at c.requires.ranged) value })
