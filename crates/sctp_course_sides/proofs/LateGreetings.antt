-- Greetings that come too late, or that do not count, change nothing of a side; and what counts makes the peer known.
use Rattle.std.proofs.Common.{◌≡◌, refl, sym, ap, ◌∙◌, ◌⊎◌, inl, inr, ℕ, Bool, true, false, ◌&&◌, is_some}
use Rattle.std.proofs.Common.{List, Option, Some, None, Result, Ok, Err}
use Rattle.std.specs.Bool.{⊤}
use Rattle.sctp_wire_types.specs.declared.chunk.Chunk.{Chunk}
use Rattle.sctp_wire_types.specs.declared.chunk.Chunk.TheVariants as chunks
use Rattle.sctp_wire_types.specs.declared.chunk.ChunkInit.{ChunkInit}
use Rattle.sctp_wire_types.specs.declared.error.Error.{Error}
use Rattle.sctp_wire_types.specs.declared.packet.CommonHeader.{CommonHeader}
use Rattle.sctp_wire_types.specs.Checks.{checked_chunk}
use Rattle.sctp_inbound.specs.declared.receiver.AckTrigger.{AckTrigger}
use Rattle.sctp_inbound.specs.Greeting.{first_cookie}
use Rattle.sctp_inbound.specs.Handshake.{comes_back, has_issued}
use Rattle.sctp_assoc.specs.Calls.{is_beginning, is_cookie_echoed, is_cookie_wait}
use Rattle.sctp_assoc.specs.Chunks.{checked_first, on_chunk}
use Rattle.sctp_assoc.specs.Handshake.{acknowledges_again, echoed, keeps_peer, on_cookie_ack, on_cookie_echo, on_init}
use Rattle.sctp_assoc.specs.Handshake.{on_init_ack, sends_cookie}
use Rattle.sctp_assoc.specs.Shown.{Shown}
use Rattle.sctp_assoc.proofs.HandshakeFacts.{kept_is_known}
use Rattle.sctp_course_sides.proofs.Greetings.{IsSeenAlike}

late_init_at : (counts : Bool) (a : Shown) (header : CommonHeader) (init : ChunkInit) (trigger : AckTrigger)
    → is_beginning a.state ≡ counts → counts ≡ false → (on_init a header init trigger).0 ≡ a
unfolding on_init
late_init_at true a header init trigger e late = absurd (cc)
late_init_at false a header init trigger e late = rw e refl

late_init_ack_at : (waits : Bool) (a : Shown) (header : CommonHeader) (init : ChunkInit) (trigger : AckTrigger)
    (now : ℕ) → is_cookie_wait a.state ≡ waits → waits ≡ false → (on_init_ack a header init trigger now).0 ≡ a
unfolding on_init_ack
late_init_ack_at true a header init trigger now e late = absurd (cc)
late_init_ack_at false a header init trigger now e late = rw e refl

-- An INIT that comes once the handshake is over changes nothing, but that it may close the side.
pub late_init : (a : Shown) (header : CommonHeader) (init : ChunkInit) (trigger : AckTrigger)
    → is_beginning a.state ≡ false → (on_init a header init trigger).0 ≡ a
late_init a header init trigger late = late_init_at (is_beginning a.state) a header init trigger refl late

-- Nor does an INIT ACK that no INIT waits for.
pub late_init_ack : (a : Shown) (header : CommonHeader) (init : ChunkInit) (trigger : AckTrigger) (now : ℕ)
    → is_cookie_wait a.state ≡ false → (on_init_ack a header init trigger now).0 ≡ a
late_init_ack a header init trigger now late =
    late_init_ack_at (is_cookie_wait a.state) a header init trigger now refl late

checked_init : (r : Result (Unit {0}) Error) (a : Shown) (header : CommonHeader) (init : ChunkInit)
    (trigger : AckTrigger) (now : ℕ) → (on_init a header init trigger).0 ≡ a
    → (checked_first r a header (chunks.Init init) trigger now).0 ≡ a
checked_init (Err fault) a header init trigger now same = refl
checked_init (Ok done) a header init trigger now same = same

checked_init_ack : (r : Result (Unit {0}) Error) (a : Shown) (header : CommonHeader) (init : ChunkInit)
    (trigger : AckTrigger) (now : ℕ) → (on_init_ack a header init trigger now).0 ≡ a
    → (checked_first r a header (chunks.InitAck init) trigger now).0 ≡ a
checked_init_ack (Err fault) a header init trigger now same = refl
checked_init_ack (Ok done) a header init trigger now same = same

-- So it is with the whole chunk.
pub late_init_chunk : (a : Shown) (header : CommonHeader) (init : ChunkInit) (trigger : AckTrigger) (now : ℕ)
    → is_beginning a.state ≡ false → (on_chunk a header (chunks.Init init) trigger now).0 ≡ a
unfolding on_chunk
late_init_chunk a header init trigger now late =
    checked_init (checked_chunk (chunks.Init init)) a header init trigger now (late_init a header init trigger late)

pub late_init_ack_chunk : (a : Shown) (header : CommonHeader) (init : ChunkInit) (trigger : AckTrigger) (now : ℕ)
    → is_cookie_wait a.state ≡ false → (on_chunk a header (chunks.InitAck init) trigger now).0 ≡ a
unfolding on_chunk
late_init_ack_chunk a header init trigger now late =
    checked_init_ack (checked_chunk (chunks.InitAck init)) a header init trigger now
    (late_init_ack a header init trigger now late)

-- Where a greeting counts

-- the peer is known, to the handshake and to resets
abbrev pub IsKnown : Shown → Type 0
IsKnown b = (is_some b.handshake.peer_initial_tsn ≡ true) × (is_some b.resets.peer.last_completed ≡ true)

-- What is known of the peer is as it was, and nothing is seen of it.
pub record IsLeft (a b : Shown) : Type 0 where
  pub known : b.handshake.peer_initial_tsn ≡ a.handshake.peer_initial_tsn
  pub alike : IsSeenAlike a b

pub left_itself : (a : Shown) → IsLeft a a
left_itself a = record { known = refl; alike = record { resets = refl; streams = refl; queue = refl; past = refl } }

init_known_at : (counts keeps : Bool) (a : Shown) (header : CommonHeader) (init : ChunkInit) (trigger : AckTrigger)
    → is_beginning a.state ≡ counts → keeps_peer a init ≡ keeps
    → IsKnown (on_init a header init trigger).0 ⊎ IsLeft a (on_init a header init trigger).0
unfolding on_init
init_known_at true true a header init trigger e k =
    let known : Some init.initial_tsn ≡ a.handshake.peer_initial_tsn = sym (kept_is_known a init k) in
    rw (e, k) (inr record {
      known = known;
      alike = record { resets = refl; streams = refl; queue = refl; past = refl };
    })
init_known_at true false a header init trigger e k = rw (e, k) (inl (refl, refl))
init_known_at false keeps a header init trigger e k = rw e (inr (left_itself a))

-- An INIT makes it known, or leaves what was known.
pub init_known : (a : Shown) (header : CommonHeader) (init : ChunkInit) (trigger : AckTrigger)
    → IsKnown (on_init a header init trigger).0 ⊎ IsLeft a (on_init a header init trigger).0
init_known a header init trigger =
    init_known_at (is_beginning a.state) (keeps_peer a init) a header init trigger refl refl

echoed_known : (o : Option (List ℕ)) (b : Shown) (trigger : AckTrigger) (now : ℕ) → IsKnown b
    → IsKnown (echoed o b trigger now).0
unfolding sends_cookie
echoed_known None b trigger now known = known
echoed_known (Some cookie) b trigger now known = known

init_ack_known_at : (waits back : Bool) (a : Shown) (header : CommonHeader) (init : ChunkInit) (trigger : AckTrigger)
    (now : ℕ) → is_cookie_wait a.state ≡ waits → comes_back a.handshake header ≡ back
    → IsKnown (on_init_ack a header init trigger now).0 ⊎ IsLeft a (on_init_ack a header init trigger now).0
unfolding on_init_ack
init_ack_known_at true true a header init trigger now e f =
    rw (e, f) (inl (echoed_known (first_cookie init.params) _ trigger now (refl, refl)))
init_ack_known_at true false a header init trigger now e f =
    rw (e, f) (inr record {
      known = refl;
      alike = record { resets = refl; streams = refl; queue = refl; past = refl };
    })
init_ack_known_at false back a header init trigger now e f = rw e (inr (left_itself a))

-- So does an INIT ACK.
pub init_ack_known : (a : Shown) (header : CommonHeader) (init : ChunkInit) (trigger : AckTrigger) (now : ℕ)
    → IsKnown (on_init_ack a header init trigger now).0 ⊎ IsLeft a (on_init_ack a header init trigger now).0
init_ack_known a header init trigger now =
    init_ack_known_at (is_cookie_wait a.state) (comes_back a.handshake header) a header init trigger now refl refl

-- The other greetings

cookie_echo_left : (issued begins again : Bool) (a : Shown) (cookie : List ℕ) (trigger : AckTrigger)
    → has_issued a.handshake cookie ≡ issued → is_beginning a.state ≡ begins → acknowledges_again a ≡ again
    → IsLeft a (on_cookie_echo a cookie trigger).0
unfolding on_cookie_echo
cookie_echo_left false begins again a cookie trigger e f g = rw e (left_itself a)
cookie_echo_left true true again a cookie trigger e f g =
    rw (e, f) record {
      known = refl;
      alike = record { resets = refl; streams = refl; queue = refl; past = refl };
    }
cookie_echo_left true false true a cookie trigger e f g =
    rw (e, f, g) record {
      known = refl;
      alike = record { resets = refl; streams = refl; queue = refl; past = refl };
    }
cookie_echo_left true false false a cookie trigger e f g = rw (e, f, g) (left_itself a)

cookie_ack_left : (echoed : Bool) (a : Shown) (trigger : AckTrigger) → is_cookie_echoed a.state ≡ echoed
    → IsLeft a (on_cookie_ack a trigger).0
unfolding on_cookie_ack
cookie_ack_left true a trigger e =
    rw e record { known = refl; alike = record { resets = refl; streams = refl; queue = refl; past = refl } }
cookie_ack_left false a trigger e = rw e (left_itself a)

-- a chunk of a handshake that tells no initial TSN
abbrev pub IsPlainGreeting : Chunk → Type 0
IsPlainGreeting (chunks.CookieEcho cookie) = ⊤
IsPlainGreeting chunks.CookieAck = ⊤
IsPlainGreeting (chunks.Abort abort) = ⊤
IsPlainGreeting (chunks.Error error) = ⊤
IsPlainGreeting (chunks.Shutdown cumulative_tsn_ack) = ⊤
IsPlainGreeting chunks.ShutdownAck = ⊤
IsPlainGreeting chunks.ShutdownComplete = ⊤
IsPlainGreeting chunk = ⊥

plain_left : (r : Result (Unit {0}) Error) (chunk : Chunk) (a : Shown) (header : CommonHeader) (trigger : AckTrigger)
    (now : ℕ) → IsPlainGreeting chunk → IsLeft a (checked_first r a header chunk trigger now).0
plain_left (Err fault) chunk a header trigger now plain = left_itself a
plain_left (Ok done) (chunks.CookieEcho x) a header trigger now plain =
    cookie_echo_left (has_issued a.handshake x) (is_beginning a.state) (acknowledges_again a) a x trigger refl refl
    refl
plain_left (Ok done) chunks.CookieAck a header trigger now plain =
    cookie_ack_left (is_cookie_echoed a.state) a trigger refl
plain_left (Ok done) (chunks.Abort x) a header trigger now plain = left_itself a
plain_left (Ok done) (chunks.Error x) a header trigger now plain = left_itself a
plain_left (Ok done) (chunks.Shutdown x) a header trigger now plain = record {
  known = refl;
  alike = record { resets = refl; streams = refl; queue = refl; past = refl };
}
plain_left (Ok done) chunks.ShutdownAck a header trigger now plain = record {
  known = refl;
  alike = record { resets = refl; streams = refl; queue = refl; past = refl };
}
plain_left (Ok done) chunks.ShutdownComplete a header trigger now plain = left_itself a
plain_left (Ok done) (chunks.Data x) a header trigger now plain = absurd plain
plain_left (Ok done) (chunks.SelectiveAck x) a header trigger now plain = absurd plain
plain_left (Ok done) (chunks.Init x) a header trigger now plain = absurd plain
plain_left (Ok done) (chunks.InitAck x) a header trigger now plain = absurd plain
plain_left (Ok done) (chunks.Heartbeat x) a header trigger now plain = absurd plain
plain_left (Ok done) (chunks.HeartbeatAck x) a header trigger now plain = absurd plain
plain_left (Ok done) (chunks.Reconfig x) a header trigger now plain = absurd plain
plain_left (Ok done) (chunks.ForwardTsn x) a header trigger now plain = absurd plain
plain_left (Ok done) (chunks.IForwardTsn x) a header trigger now plain = absurd plain
plain_left (Ok done) (chunks.Other kind flags value) a header trigger now plain = absurd plain

-- Nothing is seen of such a chunk.
pub plain_greeting_left : (chunk : Chunk) (a : Shown) (header : CommonHeader) (trigger : AckTrigger) (now : ℕ)
    → IsPlainGreeting chunk → IsLeft a (on_chunk a header chunk trigger now).0
unfolding on_chunk
plain_greeting_left chunk a header trigger now plain =
    plain_left (checked_chunk chunk) chunk a header trigger now plain
