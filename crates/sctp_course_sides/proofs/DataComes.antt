-- DATA that comes keeps a side on the course of a stream.
use Rattle.std.proofs.Common.{◌≡◌, refl, sym, ap, ◌∙◌, subst, ⊎_elim, ℕ, ◌+◌, ◌^◌, ◌<◌, ◌≤◌, Bool, true, false, not}
use Rattle.std.proofs.Common.{◌&&◌, eqb, if◌then◌else◌, is_some, nat_le, List, ◌∷◌, Option, Some, None}
use Rattle.std.proofs.Common.{arith}
use Rattle.std.proofs.lemmas.Bool.{eqb-true, false_from_ne_true, or_cases, or_left, or_right, true≢false}
use Rattle.sctp_serial.specs.Serial.{tsn, tsn_past}
use Rattle.sctp_wire_types.specs.declared.chunk.ChunkPayloadData.{ChunkPayloadData}
use Rattle.sctp_wire_types.specs.declared.error.Error.{Error}
use Rattle.sctp_wire_types.specs.declared.ids.PayloadProtocolIdentifier.TheVariants as kinds
use Rattle.sctp_model.specs.Packets.{mem}
use Rattle.sctp_streams.specs.declared.event.Event.{Event as Told}
use Rattle.sctp_streams.specs.Stream.{StreamView}
use Rattle.sctp_streams.specs.Streams.{StreamMap, generation_left, is_readable_in, pushed_in, refusal_in, stream_at}
use Rattle.sctp_inbound.specs.declared.receiver.AckTrigger.{AckTrigger}
use Rattle.sctp_inbound.specs.Receiver.{admits, is_new_to, taken_to}
use Rattle.sctp_resets.specs.Resets.{ResetsView, is_hidden, refusal_of, with_deferred}
use Rattle.sctp_courses.specs.Course.{Course}
use Rattle.sctp_courses.specs.Events.{is_new}
use Rattle.sctp_reset_fit.specs.Keeping.{GoesOn}
use Rattle.sctp_reset_fit.specs.Stands.{IsNear, offset_of}
use Rattle.sctp_reset_fit.proofs.Keeping.{goes_leaves}
use Rattle.sctp_reset_fit.proofs.Streams.{made_keeps}
use Rattle.sctp_directions.specs.Acts.{History, IsNewTsn, offset_in, reach_in, with_taken}
use Rattle.sctp_assoc.specs.Chunks.{asks, asks_or_faults, counted_data, deferred, deferred_unless}
use Rattle.sctp_assoc.specs.Chunks.{deferred_where_admitted, goes_unread, left_or_handed_over, left_unread, on_data}
use Rattle.sctp_assoc.specs.Chunks.{on_new_data, stream_found, taken_in, taken_unless, taken_where_admitted}
use Rattle.sctp_assoc.specs.Chunks.{then_skips, told, with_message, with_new_stream}
use Rattle.sctp_assoc.specs.Leads.{Binds}
use Rattle.sctp_assoc.specs.Resets.{settled, skips_applied_of}
use Rattle.sctp_assoc.specs.Shown.{Shown, all_waiting}
use Rattle.sctp_assoc.proofs.DataCame.{held_follows, last_tsn_follows, new_tsn}
use Rattle.sctp_assoc.proofs.DataLeadsOn.{asks_keeps, asks_same, settled_unless}
use Rattle.sctp_assoc.proofs.Leading.{past_itself}
use Rattle.sctp_assoc.proofs.WhatCame.{same_held}
use Rattle.sctp_course_sides.specs.Following.{LeadsFollowing}
use Rattle.sctp_course_sides.specs.Follows.{Follows, IsOfCourse}
use Rattle.sctp_course_sides.proofs.Reaching.{keeps_following, le_is, reach_grown, reach_small, reaches, same_following}
use Rattle.sctp_course_sides.proofs.Reaching.{settled_following, skips_following, stays_following, then_following}
use Rattle.sctp_course_sides.proofs.TakingData.{TakesOn, leaves_on, takes_on, waits_on}

-- The offset of DATA

-- an offset that is near is told from its TSN
offset_told : (initial o : ℕ) → initial < 2 ^ 32 → o < 2 ^ 31 → tsn_past initial (tsn initial o) ≡ o
offset_told initial o small near = omega arith

-- a TSN that is new lies at or past the reach
new_place : (initial reach o : ℕ) → reach < 2 ^ 31 → o < 2 ^ 31
    → reach + tsn_past (tsn initial reach) (tsn initial o) < reach + 65535
    → (reach ≤ o) × (reach + tsn_past (tsn initial reach) (tsn initial o) ≡ o)
new_place initial reach o small near new = (omega arith, omega arith)

at_place : (peer initial reach t o : ℕ) → peer ≡ initial → t ≡ tsn initial o → reach < 2 ^ 31 → o < 2 ^ 31
    → reach + tsn_past (tsn peer reach) t < reach + 65535
    → (reach ≤ o) × (reach + tsn_past (tsn peer reach) t ≡ o)
at_place peer initial reach t o same is small near new =
    rw (same, is) (new_place initial reach o small near (rw (same, is) at new))

all_three : (a b t : Bool) → a ≡ true → b ≡ true → t ≡ false → (a && (b && not t)) ≡ true
all_three a b t e f g = rw (e, f, g) refl

le_itself : (n : ℕ) → n ≤ n
le_itself n = omega arith

-- a member of a longer list
member_of : (x y o : ℕ) (xs ys : List ℕ) → x ≡ y → (mem o xs ≡ true → mem o ys ≡ true)
    → mem o (x ∷ xs) ≡ true → mem o (y ∷ ys) ≡ true
member_of x y o xs ys same more m =
    ⊎_elim
    (λ (e : eqb x o ≡ true). or_left (eqb y o) (mem o ys) (subst (λ z. eqb z o ≡ true) same e))
    (λ (f : mem o xs ≡ true). or_right (eqb y o) (mem o ys) (more f))
    (or_cases (eqb x o) (mem o xs) m)

member_below : (x o n : ℕ) (xs : List ℕ) → x < n → (mem o xs ≡ true → o < n) → mem o (x ∷ xs) ≡ true → o < n
member_below x o n xs l all m =
    ⊎_elim
    (λ (e : eqb x o ≡ true). subst (λ z. z < n) (eqb-true x o e) l)
    (λ (f : mem o xs ≡ true). all f)
    (or_cases (eqb x o) (mem o xs) m)

-- DATA of a course stays DATA of it where the course goes on
pub data_still : (initial id : ℕ) (c d : Course) (piece : ChunkPayloadData) → GoesOn c d
    → IsOfCourse initial id c piece → IsOfCourse initial id d piece
data_still initial id c d piece goes came =
    let left = goes_leaves c d goes in
    record {
      offset = came.offset;
      assigned = subst (λ n. came.offset < n) (sym left.1) came.assigned;
      is = came.is;
      mine = λ e. subst (λ xs. mem came.offset xs ≡ true) (sym left.2) (came.mine e);
    }

told_any : (P : Shown → Type 0) (c : Bool) (b : Shown) (id : ℕ) (kept : Bool)
    → (kept && is_readable_in b.streams id) ≡ c → ((es : List Told) → P (record b { events = es })) → P (told b id kept)
told_any P true b id kept e all = rw e (all _)
told_any P false b id kept e all = rw e (all _)

message_any : (P : Shown → Type 0) (a : Shown) (piece : ChunkPayloadData) (x : StreamMap × Bool)
    → ((es : List Told) → P (record a { receiver = taken_to a.receiver piece.tsn; streams = x.0; events = es }))
    → P (with_message a piece x)
message_any P a piece (streams, kept) all =
    told_any P (kept && is_readable_in streams piece.stream_identifier)
    (record a { streams = streams; receiver = taken_to a.receiver piece.tsn }) piece.stream_identifier kept refl all

none_live : (o : Option StreamView) → is_some o ≡ false → o ≡ None
none_live None e = refl
none_live (Some t) e = absurd (true≢false e)

-- a stream that is not live is made
pub made_following : (P : ChunkPayloadData → Type 0) (initial id k : ℕ) (a : Shown) (h : History) (c : Course)
    → Follows P initial id a h c → is_some (stream_at a.streams k) ≡ false
    → LeadsFollowing P initial id (with_new_stream a k) c
made_following P initial id k a h c f none =
    let binds : Binds (with_new_stream a k) h = record {
      first = f.binds.first;
      peer_last_tsn = f.binds.peer_last_tsn;
      held = same_held h h a.streams (with_new_stream a k).streams (past_itself h) f.binds.held;
      marked = f.binds.marked;
    } in
    keeps_following P initial id a (with_new_stream a k) h h c f binds (past_itself h)
    (made_keeps P initial id a.resets a.streams k a.sender.queue.next_message_id kinds.Unknown
    (none_live (stream_at a.streams k) none)) refl

-- DATA comes to a side that follows the course of the stream.
module _ (P : ChunkPayloadData → Type 0) (initial id : ℕ) (piece : ChunkPayloadData) (a : Shown) (h : History)
    (c : Course)
    (f : Follows P initial id a h c) (came : IsOfCourse initial id c piece) (so : P piece) where
  offset_near : came.offset < 2 ^ 31
  offset_near =
      let l : came.offset < c.assigned = came.assigned in
      let near : c.assigned < 2 ^ 31 = f.stands.stands.near in omega (arith, l, near)

  offset_is : offset_of initial piece.tsn ≡ came.offset
  offset_is =
      ap (λ t. tsn_past initial t) came.is ∙ offset_told initial came.offset f.small offset_near

  is_near : IsNear initial piece.tsn
  is_near = record {
    is = came.is ∙ ap (tsn initial) (sym offset_is);
    near = subst (λ n. n < 2 ^ 31) (sym offset_is) offset_near;
  }

  module _ (new : is_new_to a.receiver piece.tsn ≡ true) where
    unseen : IsNewTsn h piece.tsn
    unseen = new_tsn h a.streams a.receiver piece.tsn f.binds.peer_last_tsn f.binds.held new

    placed : (reach_in h ≤ came.offset) × (offset_in h piece.tsn ≡ came.offset)
    placed =
        at_place h.peer initial (reach_in h) piece.tsn came.offset f.reached.peer came.is
        (reach_small P initial id a h c f) offset_near unseen.near

    -- it is new in the course
    new_there : piece.stream_identifier ≡ id → is_new c (offset_of initial piece.tsn) ≡ true
    new_there mine =
        subst (λ n. is_new c n ≡ true) (sym offset_is)
        (all_three (nat_le c.point came.offset) (mem came.offset c.mine) (mem came.offset c.taken)
        (le_is c.point came.offset (subst (λ n. n ≤ came.offset) (sym f.reached.point) placed.0)) (came.mine mine)
        (false_from_ne_true (mem came.offset c.taken)
        (λ (m : mem came.offset c.taken ≡ true).
        true≢false
        (sym (f.reached.taken came.offset m) ∙ ap (λ n. mem n h.taken) (sym placed.1) ∙ unseen.missing))))

    -- what takes it in follows
    came_following : (s : ResetsView) (n : StreamMap) (es : List Told)
        → TakesOn P initial id (offset_of initial piece.tsn) s n c
        → LeadsFollowing P initial id
        (record a { receiver = taken_to a.receiver piece.tsn; resets = s; streams = n; events = es }) c
    came_following s n es t =
        let b : Shown =
        record a { receiver = taken_to a.receiver piece.tsn; resets = s; streams = n; events = es } in
        let k : History = with_taken h (offset_in h piece.tsn) in
        let same : offset_of initial piece.tsn ≡ offset_in h piece.tsn = offset_is ∙ sym placed.1 in
        let binds : Binds b k = record {
          first = f.binds.first;
          peer_last_tsn =
              last_tsn_follows h a.streams a.receiver piece.tsn f.binds.peer_last_tsn f.binds.held new n;
          held = held_follows h a.streams a.receiver piece.tsn f.binds.peer_last_tsn f.binds.held new n;
          marked = f.binds.marked;
        } in
        let grown : reach_in h ≤ reach_in k =
        reach_grown h k (λ o m. or_right (eqb (offset_in h piece.tsn) o) (mem o h.taken) m) (le_itself h.passed) in
        let at : t.after.point ≡ reach_in h = t.point ∙ f.reached.point in
        reaches P initial id a b h k c t.after f binds refl t.goes t.told t.stands
        (subst (λ p. p ≤ reach_in k) (sym at) grown)
        (λ o m.
        member_of (offset_of initial piece.tsn) (offset_in h piece.tsn) o c.taken h.taken same (f.reached.taken o)
        (t.taken o m))
        (λ o m.
        member_below (offset_in h piece.tsn) o c.assigned h.taken
        (subst (λ n. n < c.assigned) (sym placed.1) came.assigned) (f.reached.assigned o) m)
        f.reached.passed

    -- Of the generation that is read

    module _ (out : is_hidden a.resets piece.stream_identifier piece.tsn ≡ false) where
      taken_unless_following : (o : Option Error)
          → refusal_in a.streams piece.stream_identifier piece a.receiver.max_receive_message_size ≡ o
          → LeadsFollowing P initial id (taken_unless o a piece).0 c
      taken_unless_following (Some fault) e = same_following P initial id a h c f
      taken_unless_following None e =
          message_any (λ (b : Shown). LeadsFollowing P initial id b c) a piece
          (pushed_in a.streams piece.stream_identifier piece)
          (λ es.
          came_following a.resets (pushed_in a.streams piece.stream_identifier piece).0 es
          (takes_on P initial piece so is_near a.resets a.streams c id a.receiver.max_receive_message_size f.stands
          new_there
          out e))

      -- what nobody reads is taken in, too
      left_following : (left : Bool) → LeadsFollowing P initial id (left_or_handed_over left a piece).0 c
      left_following true =
          came_following a.resets a.streams (left_unread a piece).events
          (leaves_on P initial piece so is_near a.resets a.streams c id f.stands new_there out)
      left_following false =
          taken_unless_following
          (refusal_in a.streams piece.stream_identifier piece a.receiver.max_receive_message_size) refl

      taken_in_following : LeadsFollowing P initial id (taken_in a piece).0 c
      unfolding taken_in
      taken_in_following = left_following (goes_unread a piece)

    -- Of a later one

    deferred_unless_following : is_hidden a.resets piece.stream_identifier piece.tsn ≡ true → (o : Option Error)
        → LeadsFollowing P initial id (deferred_unless o a piece).0 c
    deferred_unless_following out (Some fault) = same_following P initial id a h c f
    deferred_unless_following out None =
        came_following (with_deferred a.resets piece) a.streams a.events
        (waits_on P initial piece so is_near a.resets a.streams c id f.stands new_there out)

    deferred_if_following : is_hidden a.resets piece.stream_identifier piece.tsn ≡ true → (credit : Bool)
        → LeadsFollowing P initial id
        (if◌then◌else◌ {A = Shown × Option Error} credit (deferred a piece) (a, None)).0 c
    deferred_if_following out true =
        deferred_unless_following out (refusal_of a.resets piece a.receiver.max_receive_message_size)
    deferred_if_following out false = same_following P initial id a h c f

    deferred_following : is_hidden a.resets piece.stream_identifier piece.tsn ≡ true
        → LeadsFollowing P initial id (deferred_where_admitted a piece).0 c
    unfolding deferred_where_admitted
    deferred_following out = deferred_if_following out (admits a.receiver piece.tsn (all_waiting a))

-- What follows DATA that was taken in

module _ (P : ChunkPayloadData → Type 0) (initial id : ℕ) (c : Course) where
  skips_behind : (x : Shown × Option Error) (k : ℕ) → LeadsFollowing P initial id x.0 c
      → LeadsFollowing P initial id (then_skips x k).0 c
  skips_behind (b, None) k l =
      then_following P initial id b (skips_applied_of k b) c l
      (skips_following P initial id k b l.past l.after l.follows)
  skips_behind (b, Some fault) k l = l

  settles_behind : (x : Shown × Option Error) → LeadsFollowing P initial id x.0 c
      → LeadsFollowing P initial id (settled_unless x) c
  settles_behind (b, None) l =
      then_following P initial id b (settled b) c l (settled_following P initial id b l.past l.after l.follows)
  settles_behind (b, Some fault) l = l

  asks_behind : (x : Shown × Option Error) (piece : ChunkPayloadData) (trigger : AckTrigger)
      → LeadsFollowing P initial id x.0 c
      → LeadsFollowing P initial id (asks_or_faults x piece.immediate_sack trigger).0 c
  asks_behind x piece trigger l =
      subst (λ (z : Shown). LeadsFollowing P initial id z c) (sym (asks_same x piece trigger)) (settles_behind x l)

module _ (P : ChunkPayloadData → Type 0) (initial id : ℕ) (piece : ChunkPayloadData) (trigger : AckTrigger)
    (so : P piece) where
  admitted_following : (a : Shown) (h : History) (c : Course) → Follows P initial id a h c
      → IsOfCourse initial id c piece → is_new_to a.receiver piece.tsn ≡ true
      → is_hidden a.resets piece.stream_identifier piece.tsn ≡ false → (credit : Bool)
      → LeadsFollowing P initial id
      (if◌then◌else◌ {A = Shown × Option Error} credit (then_skips (taken_in a piece) piece.stream_identifier)
      (a, None)).0 c
  admitted_following a h c f came new out true =
      skips_behind P initial id c (taken_in a piece) piece.stream_identifier
      (taken_in_following P initial id piece a h c f came so new out)
  admitted_following a h c f came new out false = same_following P initial id a h c f

  new_following : (a : Shown) (h : History) (c : Course) → Follows P initial id a h c
      → IsOfCourse initial id c piece → is_new_to a.receiver piece.tsn ≡ true
      → is_hidden a.resets piece.stream_identifier piece.tsn ≡ false
      → LeadsFollowing P initial id (on_new_data (a, true) piece trigger).0 c
  new_following a h c f came new out =
      asks_behind P initial id c (taken_where_admitted a piece) piece trigger
      (admitted_following a h c f came new out (admits a.receiver piece.tsn (all_waiting a)))

  found_if : (there left : Bool) (a : Shown) (h : History) (c : Course) → Follows P initial id a h c
      → IsOfCourse initial id c piece → is_new_to a.receiver piece.tsn ≡ true
      → is_hidden a.resets piece.stream_identifier piece.tsn ≡ false
      → is_some (stream_at a.streams piece.stream_identifier) ≡ there
      → LeadsFollowing P initial id
      (on_new_data
      (if◌then◌else◌ {A = Shown × Bool} there (a, true)
      (if◌then◌else◌ {A = Shown × Bool} (not left) (a, false) (with_new_stream a piece.stream_identifier, true)))
      piece trigger).0 c
  found_if true left a h c f came new out e = new_following a h c f came new out
  found_if false false a h c f came new out e = same_following P initial id a h c f
  found_if false true a h c f came new out e =
      let l : LeadsFollowing P initial id (with_new_stream a piece.stream_identifier) c =
      made_following P initial id piece.stream_identifier a h c f e in
      then_following P initial id (with_new_stream a piece.stream_identifier)
      (on_new_data (with_new_stream a piece.stream_identifier, true) piece trigger).0 c l
      (new_following (with_new_stream a piece.stream_identifier) l.past l.after l.follows
      (data_still initial id c l.after piece l.goes came) new out)

  found_following : (a : Shown) (h : History) (c : Course) → Follows P initial id a h c
      → IsOfCourse initial id c piece → is_new_to a.receiver piece.tsn ≡ true
      → is_hidden a.resets piece.stream_identifier piece.tsn ≡ false
      → LeadsFollowing P initial id (on_new_data (stream_found a piece.stream_identifier) piece trigger).0 c
  unfolding stream_found
  found_following a h c f came new out =
      found_if (is_some (stream_at a.streams piece.stream_identifier)) (generation_left a.streams) a h c f came new out
      refl

  counted_if : (next hidden : Bool) (a : Shown) (h : History) (c : Course) → Follows P initial id a h c
      → IsOfCourse initial id c piece → is_new_to a.receiver piece.tsn ≡ next
      → is_hidden a.resets piece.stream_identifier piece.tsn ≡ hidden
      → LeadsFollowing P initial id
      (if not next then asks (settled a) piece.immediate_sack trigger else
      if hidden then asks_or_faults (deferred_where_admitted a piece) piece.immediate_sack trigger else
      on_new_data (stream_found a piece.stream_identifier) piece trigger).0 c
  counted_if false hidden a h c f came e g =
      subst (λ (z : Shown). LeadsFollowing P initial id z c) (sym (asks_keeps (settled a) piece trigger))
      (settled_following P initial id a h c f)
  counted_if true true a h c f came e g =
      asks_behind P initial id c (deferred_where_admitted a piece) piece trigger
      (deferred_following P initial id piece a h c f came so e g)
  counted_if true false a h c f came e g = found_following a h c f came e g

  -- A DATA chunk of the course keeps to it.
  pub data_follows : (a : Shown) (h : History) (c : Course) → IsOfCourse initial id c piece → Follows P initial id a h c
      → LeadsFollowing P initial id (on_data a piece trigger).0 c
  unfolding on_data
  data_follows a h c came f =
      let counted : LeadsFollowing P initial id (counted_data a) c =
      stays_following P initial id a (counted_data a) h c refl refl refl f in
      then_following P initial id (counted_data a) (on_data a piece trigger).0 c counted
      (counted_if (is_new_to a.receiver piece.tsn) (is_hidden a.resets piece.stream_identifier piece.tsn)
      (counted_data a) counted.past counted.after counted.follows
      (data_still initial id c counted.after piece counted.goes came) refl refl)
