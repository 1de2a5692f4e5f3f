-- One live stream is changed, made or ends, or DATA goes to some: each other one stays.
use Rattle.std.proofs.Common.{◌≡◌, refl, sym, ap, ◌∙◌, subst, ℕ, Bool, true, false, ◌||◌, ◌&&◌, not, cond}
use Rattle.std.proofs.Common.{List, [], ◌∷◌, ◌++◌, fold, map, filter, Option, Some, None, is_some, arith}
use Rattle.std.proofs.Common.{Ordering, Less, Equal, Greater, is_eq, nat_cmp}
use Rattle.std.specs.Ordering.{match_ordering}
use Rattle.std.specs.BTreeMap.{is_at, insert_entry}
use Rattle.std.specs.Map.{lookup, remove_entry, set_value}
use Rattle.std.proofs.lemmas.Bool.{or_parts}
use Rattle.std.proofs.lemmas.Bool.Decides.{nat_tests}
use Rattle.std.proofs.lemmas.List.Folds.{list_any-append}
use Rattle.sctp_wire_types.specs.declared.chunk.ChunkPayloadData.{ChunkPayloadData}
use Rattle.sctp_wire_types.specs.declared.error.Error.{Error}
use Rattle.sctp_wire_types.specs.declared.ids.PayloadProtocolIdentifier.{PayloadProtocolIdentifier}
use Rattle.sctp_streams.specs.Stream.{StreamView, fresh_stream}
use Rattle.sctp_streams.specs.Streams.{StreamMap, change_at, changed_stream, generation_left, is_readable_in, made}
use Rattle.sctp_streams.specs.Streams.{pushed_at, pushed_in, refusal_in, stream_at, with_stream, without_stream}
use Rattle.sctp_reset_requests.specs.Ids.{has_id}
use Rattle.sctp_resets.specs.Channels.{Channels, delivered, given_unless, given_where, opened, told, with_new_stream}

-- Identifiers

pub same_identifier : (n k : ℕ) → is_eq (nat_cmp n k) ≡ true → n ≡ k
same_identifier n k e = grind (arith, nat_tests, e)

-- what is apart from one identifier is apart from each that is the same
pub apart_there : (t id k : ℕ) → is_eq (nat_cmp t id) ≡ false → is_eq (nat_cmp id k) ≡ true
    → is_eq (nat_cmp t k) ≡ false
apart_there t id k apart same = subst (λ z. is_eq (nat_cmp t z) ≡ false) (same_identifier id k same) apart

pub both_false : (a b : Bool) → a ≡ false → b ≡ false → (a || b) ≡ false
both_false a b e f = rw (e, f) refl

-- what joined lists do not name neither of them names, and the other way round
pub named_by_neither : (t : ℕ) (xs ys : List ℕ) → has_id t (xs ++ ys) ≡ false
    → (has_id t xs ≡ false) × (has_id t ys ≡ false)
named_by_neither t xs ys e =
    or_parts (has_id t xs) (has_id t ys) (sym (list_any-append (is_at (nat_cmp t)) xs ys) ∙ e)

pub named_by_none : (t : ℕ) (xs ys : List ℕ) → has_id t xs ≡ false → has_id t ys ≡ false → has_id t (xs ++ ys) ≡ false
named_by_none t xs ys e f =
    list_any-append (is_at (nat_cmp t)) xs ys ∙ both_false (has_id t xs) (has_id t ys) e f

-- those of a list that pass a test are named by no identifier that names none of the list
pub filtered_apart : {X : Type 0} (t : ℕ) (f : X → ℕ) (test : X → Bool) (xs : List X) → has_id t (map f xs) ≡ false
    → has_id t (map f (filter test xs)) ≡ false
filtered_apart t f test [] e = refl
filtered_apart t f test (x ∷ xs) e =
    let parts = or_parts (is_eq (nat_cmp t (f x))) (has_id t (map f xs)) e in
    by (test x) parts.0 (filtered_apart t f test xs parts.1)
  where
    by : (b : Bool) → is_eq (nat_cmp t (f x)) ≡ false → has_id t (map f (filter test xs)) ≡ false
        → has_id t (map f (cond b (x ∷ filter test xs) (filter test xs))) ≡ false
    by true first others = both_false (is_eq (nat_cmp t (f x))) (has_id t (map f (filter test xs))) first others
    by false first others = others

-- One entry

module _ (t id : ℕ) (apart : is_eq (nat_cmp t id) ≡ false) where
  pub set_apart : {V : Type 0} (s : V) (es : List (ℕ × V))
      → lookup (is_at (nat_cmp t)) (set_value (is_at (nat_cmp id)) es s) ≡ lookup (is_at (nat_cmp t)) es
  set_apart s [] = refl
  set_apart s (e ∷ es) = by (is_eq (nat_cmp id e.0)) refl (set_apart s es)
    where
      by : (b : Bool) → is_eq (nat_cmp id e.0) ≡ b
          → lookup (is_at (nat_cmp t)) (set_value (is_at (nat_cmp id)) es s) ≡ lookup (is_at (nat_cmp t)) es
          → lookup (is_at (nat_cmp t)) (cond b ((e.0, s) ∷ es) (e ∷ set_value (is_at (nat_cmp id)) es s))
          ≡ lookup (is_at (nat_cmp t)) (e ∷ es)
      by true same more = rw (apart_there t id e.0 apart same) refl
      by false other more = ap (cond (is_eq (nat_cmp t e.0)) (Some e.1)) more

  pub removed_apart : {V : Type 0} (es : List (ℕ × V))
      → lookup (is_at (nat_cmp t)) (remove_entry (is_at (nat_cmp id)) es) ≡ lookup (is_at (nat_cmp t)) es
  removed_apart [] = refl
  removed_apart (e ∷ es) = by (is_eq (nat_cmp id e.0)) refl (removed_apart es)
    where
      by : (b : Bool) → is_eq (nat_cmp id e.0) ≡ b
          → lookup (is_at (nat_cmp t)) (remove_entry (is_at (nat_cmp id)) es) ≡ lookup (is_at (nat_cmp t)) es
          → lookup (is_at (nat_cmp t)) (cond b es (e ∷ remove_entry (is_at (nat_cmp id)) es))
          ≡ lookup (is_at (nat_cmp t)) (e ∷ es)
      by true same more = rw (apart_there t id e.0 apart same) refl
      by false other more = ap (cond (is_eq (nat_cmp t e.0)) (Some e.1)) more

  inserted_apart : (s : StreamView) (es : List (ℕ × StreamView))
      → lookup (is_at (nat_cmp t)) (insert_entry nat_cmp es id s) ≡ lookup (is_at (nat_cmp t)) es
  inserted_apart s [] = rw apart refl
  inserted_apart s (e ∷ es) = by (nat_cmp id e.0) refl (inserted_apart s es)
    where
      by : (o : Ordering) → nat_cmp id e.0 ≡ o
          → lookup (is_at (nat_cmp t)) (insert_entry nat_cmp es id s) ≡ lookup (is_at (nat_cmp t)) es
          → lookup (is_at (nat_cmp t))
          (match_ordering o ((id, s) ∷ e ∷ es) ((e.0, s) ∷ es) (e ∷ insert_entry nat_cmp es id s))
          ≡ lookup (is_at (nat_cmp t)) (e ∷ es)
      by Less o more = rw apart refl
      by Equal o more = rw (apart_there t id e.0 apart (ap is_eq o)) refl
      by Greater o more = ap (cond (is_eq (nat_cmp t e.0)) (Some e.1)) more

  pub stream_set_apart : (m : StreamMap) (s : StreamView) → stream_at (with_stream m id s) t ≡ stream_at m t
  stream_set_apart m s = set_apart s m.by_id

  pub ended_apart : (m : StreamMap) → stream_at (without_stream m id) t ≡ stream_at m t
  ended_apart m = removed_apart m.by_id

  pub made_apart : (m : StreamMap) (first : ℕ) (kind : PayloadProtocolIdentifier)
      → stream_at (made m id first kind) t ≡ stream_at m t
  made_apart m first kind = inserted_apart (fresh_stream id m.next_generation first kind) m.by_id

  pub changed_apart : (f : StreamView → StreamView) (m : StreamMap)
      → stream_at (changed_stream f m id) t ≡ stream_at m t
  changed_apart f m = by (stream_at m id)
    where
      by : (o : Option StreamView) → stream_at (change_at f o m id) t ≡ stream_at m t
      by None = refl
      by (Some s) = stream_set_apart m (f s)

  pub pushed_apart : (m : StreamMap) (d : ChunkPayloadData) → stream_at (pushed_in m id d).0 t ≡ stream_at m t
  pushed_apart m d = by (stream_at m id)
    where
      by : (o : Option StreamView) → stream_at (pushed_at o m id d).0 t ≡ stream_at m t
      by None = refl
      by (Some s) = stream_set_apart m _

  pub opened_apart : (first : ℕ) (c : Channels) → stream_at (opened first c id).0.streams t ≡ stream_at c.streams t
  unfolding opened
  opened_apart first c = by (is_some (stream_at c.streams id)) (generation_left c.streams)
    where
      by : (live left : Bool)
          → stream_at
          (cond {A = Channels × Bool} live (c, true)
          (cond {A = Channels × Bool} (not left) (c, false) (with_new_stream first c id, true))).0.streams t
          ≡ stream_at c.streams t
      by true left = refl
      by false false = refl
      by false true = made_apart c.streams first _

  -- of two choices each leaves a stream what it was
  in_either : (b : Bool) (x y : Channels) (o : Option StreamView) → stream_at x.streams t ≡ o
      → stream_at y.streams t ≡ o → stream_at (cond b x y).streams t ≡ o
  in_either true x y o first second = first
  in_either false x y o first second = second

  told_apart : (c : Channels) (kept : Bool) → stream_at (told c id kept).streams t ≡ stream_at c.streams t
  told_apart c kept = in_either (kept && is_readable_in c.streams id) _ _ (stream_at c.streams t) refl refl

-- DATA

-- the streams that DATA is of
abbrev pub ids_of_data : List ChunkPayloadData → List ℕ
ids_of_data ds = map (λ d. d.stream_identifier) ds

module _ (t : ℕ) (d : ChunkPayloadData) (apart : is_eq (nat_cmp t d.stream_identifier) ≡ false) where
  given_apart : (limit : ℕ) (c : Channels) (there : Bool)
      → stream_at (given_where limit (c, there) d).streams t ≡ stream_at c.streams t
  given_apart limit c false = refl
  given_apart limit c true = by (refusal_in c.streams d.stream_identifier d limit)
    where
      by : (o : Option Error) → stream_at (given_unless o c d).streams t ≡ stream_at c.streams t
      by (Some fault) = refl
      by None =
          told_apart t d.stream_identifier apart
          (record c { streams = (pushed_in c.streams d.stream_identifier d).0 })
          (pushed_in c.streams d.stream_identifier d).1
          ∙ pushed_apart t d.stream_identifier apart c.streams d

  delivered_apart : (first limit : ℕ) (c : Channels)
      → stream_at (delivered first limit c d).streams t ≡ stream_at c.streams t
  unfolding delivered
  delivered_apart first limit c =
      given_apart limit (opened first c d.stream_identifier).0 (opened first c d.stream_identifier).1
      ∙ opened_apart t d.stream_identifier apart first c

-- DATA that goes to other streams leaves a stream what it was
pub all_delivered_apart : (t first limit : ℕ) (ds : List ChunkPayloadData) (c : Channels)
    → has_id t (ids_of_data ds) ≡ false
    → stream_at (fold (delivered first limit) c ds).streams t ≡ stream_at c.streams t
all_delivered_apart t first limit [] c e = refl
all_delivered_apart t first limit (d ∷ ds) c e =
    let parts = or_parts (is_eq (nat_cmp t d.stream_identifier)) (has_id t (ids_of_data ds)) e in
    all_delivered_apart t first limit ds (delivered first limit c d) parts.1
    ∙ delivered_apart t d parts.0 first limit c
