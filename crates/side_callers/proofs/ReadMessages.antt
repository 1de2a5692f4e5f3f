-- What a run reads was made of DATA that the run delivered before.
use Rattle.std.proofs.Common.{◌≡◌, refl, sym, ap, ◌∙◌, subst, inl, inr, ℕ, zero, suc, Bool, true, false}
use Rattle.std.proofs.Common.{List, [], ◌∷◌, ◌++◌, length, take, Option, Some, None}
use Rattle.std.specs.Prelude.{IfOk, Result, Ok, Err, is_some, slice_get}
use Rattle.std.specs.declared.net.ip_addr.IpAddr.{IpAddr}
use Rattle.std.specs.declared.net.socket_addr.SocketAddr.{SocketAddr}
use Rattle.std.specs.List.{AllByRecursion, flat_map}
use Rattle.std.proofs.lemmas.Bool.{false≢true}
use Rattle.std.proofs.lemmas.List.{append_assoc, append-nil}
use Rattle.sctp_wire_types.specs.declared.chunk.Chunk.{Chunk}
use Rattle.sctp_wire_types.specs.declared.chunk.Chunk.TheVariants as chunks
use Rattle.sctp_wire_types.specs.declared.chunk.ChunkInit.{ChunkInit}
use Rattle.sctp_wire_types.specs.declared.config.ServerConfig.{ServerConfig}
use Rattle.sctp_wire_types.specs.Config.{Settings}
use Rattle.sctp_wire_types.specs.declared.chunk.ChunkPayloadData.{ChunkPayloadData}
use Rattle.sctp_wire.specs.declared.packet.Packet.{Packet}
use Rattle.sctp_receive_queues.specs.Messages.{ReceivedMessage}
use Rattle.sctp_streams.specs.Stream.{StreamView}
use Rattle.sctp_model.proofs.Lists.{all_weaker}
use Rattle.sctp_directions.specs.Acts.{History}
use Rattle.sctp_assoc.specs.declared.call.Call.{Call}
use Rattle.sctp_assoc.specs.declared.call.Call.TheVariants as calls
use Rattle.sctp_assoc.specs.declared.call.Reply.{Reply}
use Rattle.sctp_assoc.specs.declared.call.Reply.TheVariants as replies
use Rattle.sctp_assoc.specs.Abstract.{AbstractAssociation, IsRun, IsStep, RunsOn, StandsOn, abstract}
use Rattle.sctp_assoc.specs.Calls.{read_from_stream, read_refusal}
use Rattle.sctp_assoc.specs.Created.{created, joined}
use Rattle.sctp_assoc.specs.Handshake.{sends_init}
use Rattle.sctp_assoc.specs.Replies.{Reads, Replies, ShowsOrRefuses, packet_in}
use Rattle.sctp_assoc.specs.Shown.{Shown}
use Rattle.sctp_assoc.proofs.Replied.{lent_works}
use Rattle.sctp_sides.specs.Brought.{BringsOnly, CallBringsOnly, IsAmong, IsOnly, SideHoldsOnly}
use Rattle.sctp_reset_fit.specs.Pieces.{IsMadeOf, IsMadeOfWhereThere}
use Rattle.sctp_sides.specs.OneSide as side
use Rattle.sctp_sides.specs.Runs.{side_calls_of, told_in}
use Rattle.sctp_sides.proofs.Proved.{held_weaker, listed, lists_hold_what_came, reads_give_what_is_held}
use Rattle.side_callers.specs.Reading.{HoldsNothing, IsReadOn, ReadsGiveWhatCame, data_delivered, data_in, data_in_chunk}

-- among more

among_front : (xs ys : List ChunkPayloadData) (x : ChunkPayloadData) → IsAmong xs x → IsAmong (xs ++ ys) x
among_front [] ys x (k, e) = absurd (false≢true (ap is_some e))
among_front (y ∷ xs) ys x (zero, e) = (0, e)
among_front (y ∷ xs) ys x (suc k, e) = let more = among_front xs ys x (k, e) in (suc more.0, more.1)

among_back : (xs ys : List ChunkPayloadData) (x : ChunkPayloadData) → IsAmong ys x → IsAmong (xs ++ ys) x
among_back [] ys x at = at
among_back (y ∷ xs) ys x at = let more = among_back xs ys x at in (suc more.0, more.1)

-- the DATA of a packet is what it brings

chunk_brings : (c : Chunk) → IsOnly (IsAmong (data_in_chunk c)) c
chunk_brings (chunks.Data piece) = (0, refl)
chunk_brings c = tt

only_weaker : (P Q : ChunkPayloadData → Type 0) → ((x : ChunkPayloadData) → P x → Q x) → (c : Chunk) → IsOnly P c
    → IsOnly Q c
only_weaker P Q weaker (chunks.Data piece) h = weaker piece h
only_weaker P Q weaker c h = tt

chunks_bring : (cs : List Chunk)
    → AllByRecursion (λ (c : Chunk). IsOnly (IsAmong (flat_map data_in_chunk cs)) c) cs
chunks_bring [] = tt
chunks_bring (c ∷ cs) = (
  only_weaker (IsAmong (data_in_chunk c)) (IsAmong (data_in_chunk c ++ flat_map data_in_chunk cs))
      (among_front (data_in_chunk c) (flat_map data_in_chunk cs)) c (chunk_brings c),
  all_weaker _ _ cs
      (only_weaker (IsAmong (flat_map data_in_chunk cs)) (IsAmong (data_in_chunk c ++ flat_map data_in_chunk cs))
      (among_back (data_in_chunk c) (flat_map data_in_chunk cs)))
      (chunks_bring cs),
)

brings : (came : List ChunkPayloadData) (packet : Option Packet)
    → BringsOnly (IsAmong (came ++ data_in packet)) packet
brings came None = tt
brings came (Some packet) =
    all_weaker _ _ packet.chunks
    (only_weaker (IsAmong (data_in (Some packet))) (IsAmong (came ++ data_in (Some packet)))
    (among_back came (data_in (Some packet))))
    (chunks_bring packet.chunks)

-- One call

-- what a call brings to its side is among what came and what it delivers
calls_bring : (call : Call) (came : List ChunkPayloadData)
    → AllByRecursion (λ (x : side.Call). CallBringsOnly (IsAmong (came ++ data_delivered call)) x) (side_calls_of call)
calls_bring (calls.OpenStream id kind) came = (tt, tt)
calls_bring (calls.Write id bytes) came = (tt, tt)
calls_bring (calls.WriteWithPpi id bytes kind) came = (tt, tt)
calls_bring (calls.WriteSctp id bytes kind) came = (tt, tt)
calls_bring (calls.WriteChunk id bytes) came = (tt, tt)
calls_bring (calls.WriteChunks id buffers) came = (tt, tt)
calls_bring (calls.Finish id) came = (tt, tt)
calls_bring (calls.SetReliabilityParams id unordered kind value) came = (tt, tt)
calls_bring (calls.SetDefaultPayloadType id kind) came = (tt, tt)
calls_bring (calls.SetBufferedAmountLowThreshold id bytes) came = (tt, tt)
calls_bring (calls.SetBufferedAmountHighThreshold id bytes) came = (tt, tt)
calls_bring calls.AcceptStream came = (tt, tt)
calls_bring (calls.SetMaxSendMessageSize size) came = (tt, tt)
calls_bring calls.Shutdown came = (tt, tt)
calls_bring calls.Close came = (tt, tt)
calls_bring (calls.Read id) came = (tt, tt)
calls_bring (calls.ReadSctp id) came = (tt, tt)
calls_bring calls.Poll came = (tt, tt)
calls_bring calls.PollEndpointEvent came = (tt, tt)
calls_bring (calls.PollTransmit now) came = (tt, tt)
calls_bring (calls.HandleTimeout now) came = (tt, tt)
calls_bring (calls.HandleDatagram datagram remote now) came = (brings came (packet_in datagram), tt)
calls_bring (calls.Stop id) came = (tt, tt)
calls_bring (calls.CloseStream id) came = (tt, tt)
calls_bring call came = tt

-- The reply of a read

abbrev pub is_read : Reply → Bool
is_read (replies.Read message) = true
is_read r = false

no_read : {X : Type 0} (r : Reply) (message : Option ReceivedMessage) → is_read r ≡ false → replies.Read message ≡ r
    → X
no_read r message other e = absurd (false≢true (sym other ∙ ap is_read (sym e)))

read_came : (came : List ChunkPayloadData) (a b : Shown) (id : ℕ) (m : ReceivedMessage)
    → SideHoldsOnly (IsAmong came) a → read_from_stream a id ≡ (b, Some m) → IsMadeOf (IsAmong came) id m
read_came came a b id m held e =
    subst (IsMadeOfWhereThere (IsAmong came) id) (ap (λ (x : Shown × Option ReceivedMessage). x.1) e)
    (reads_give_what_is_held came a id held)

module _ (came : List ChunkPayloadData) (a b : Shown) (packets more : List (List ℕ)) (m : ReceivedMessage)
    (held : a.failed ≡ false → SideHoldsOnly (IsAmong came) a) where
  reads_came : (id : ℕ) → Reads a id (replies.Read (Some m)) b → IsMadeOf (IsAmong came) id m
  reads_came id h =
      read_came came a b id m (held (lent_works a id (read_refusal a id) h.0)) h.1

  shows_no_message : {X : Type 0} (id : ℕ) (answer : StreamView → Reply) → ((s : StreamView) → is_read (answer s) ≡ false)
      → ShowsOrRefuses a id answer (replies.Read (Some m)) b → X
  shows_no_message id answer other (inl shown) = no_read (answer shown.stream) (Some m) (other shown.stream) shown.answered
  shows_no_message id answer other (inr refused) = no_read (replies.Refused refused.0) (Some m) refl refused.1

  reading : (call : Call) → Replies call a packets (replies.Read (Some m)) b more
      → IsReadOn (λ id. IsMadeOf (IsAmong came) id m) call
  reading (calls.Read id) h = reads_came id h.0
  reading (calls.ReadSctp id) h = reads_came id h.0
  reading (calls.StreamStats id) h = shows_no_message id _ (λ s. refl) h.0
  reading (calls.IsReadable id) h = shows_no_message id _ (λ s. refl) h.0
  reading (calls.IsWritable id) h = shows_no_message id _ (λ s. refl) h.0
  reading (calls.StreamIdentifier id) h = shows_no_message id _ (λ s. refl) h.0
  reading (calls.GetDefaultPayloadType id) h = shows_no_message id _ (λ s. refl) h.0
  reading (calls.BufferedAmountLowThreshold id) h = shows_no_message id _ (λ s. refl) h.0
  reading (calls.BufferedAmountHighThreshold id) h = shows_no_message id _ (λ s. refl) h.0
  reading calls.PollTimeout h = no_read _ (Some m) refl h.0.0
  reading calls.IsHandshaking h = no_read _ (Some m) refl h.0.0
  reading calls.IsClosed h = no_read _ (Some m) refl h.0.0
  reading calls.IsClosing h = no_read _ (Some m) refl h.0.0
  reading calls.IsDrained h = no_read _ (Some m) refl h.0.0
  reading calls.IsFailed h = no_read _ (Some m) refl h.0.0
  reading calls.Stats h = no_read _ (Some m) refl h.0.0
  reading calls.Side h = no_read _ (Some m) refl h.0.0
  reading calls.RemoteAddr h = no_read _ (Some m) refl h.0.0
  reading calls.LocalIp h = no_read _ (Some m) refl h.0.0
  reading (calls.PollTransmit now) h = absurd h
  reading call h = absurd h.0

-- A run

abbrev pub HoldsWhereItWorks : List ChunkPayloadData → Shown → Type 0
HoldsWhereItWorks came a = a.failed ≡ false → SideHoldsOnly (IsAmong came) a

more_held : (came more : List ChunkPayloadData) (a : Shown) → HoldsWhereItWorks came a
    → HoldsWhereItWorks (came ++ more) a
more_held came more a held works =
    held_weaker (IsAmong came) (IsAmong (came ++ more)) (among_front came more) a.resets a.streams (held works)

step_holds : (call : Call) (r : Reply) (came : List ChunkPayloadData) (s t : AbstractAssociation)
    (packets more : List (List ℕ)) → IsStep call s packets r t more → HoldsWhereItWorks came s.shown
    → HoldsWhereItWorks (came ++ data_delivered call) t.shown
step_holds call r came s t packets more step held =
    lists_hold_what_came (came ++ data_delivered call) (side_calls_of call) (told_in r) s.shown t.shown
    (listed s.shown t.shown call packets more r step.replied) (calls_bring call came)
    (more_held came (data_delivered call) s.shown held)

-- a message is made of DATA among these, on the stream that a call reads
abbrev IsReadBy : Call → ReceivedMessage → List ChunkPayloadData → Type 0
IsReadBy call m pieces = IsReadOn (λ id. IsMadeOf (IsAmong pieces) id m) call

run_came : (cs : List Call) (rs : List Reply) (came : List ChunkPayloadData) (s t : AbstractAssociation)
    (packets more : List (List ℕ)) → IsRun cs s packets rs t more → HoldsWhereItWorks came s.shown → (index : ℕ)
    (m : ReceivedMessage) → slice_get rs index ≡ Some (replies.Read (Some m))
    → (call : Call) × (slice_get cs index ≡ Some call)
    × IsReadBy call m (came ++ flat_map data_delivered (take index cs))
run_came [] [] came s t packets more run held index m e = absurd (false≢true (ap is_some e))
run_came [] (r ∷ rs) came s t packets more run held index m e = absurd run
run_came (c ∷ cs) [] came s t packets more run held index m e = absurd run
run_came (c ∷ cs) (r ∷ rs) came s t packets more (u, given, step, others) held zero m e =
    let is : r ≡ replies.Read (Some m) = cc in (
      c,
      refl,
      subst (IsReadBy c m) (sym (append-nil came))
          (reading came s.shown u.shown packets given m held c
          (subst (λ (z : Reply). Replies c s.shown packets z u.shown given) is step.replied)),
    )
run_came (c ∷ cs) (r ∷ rs) came s t packets more (u, given, step, others) held (suc index) m e =
    let found =
    run_came cs rs (came ++ data_delivered c) u t given more others
    (step_holds c r came s u packets given step held) index m e in (
      found.0,
      found.1,
      subst (IsReadBy found.0 m) (append_assoc came (data_delivered c) (flat_map data_delivered (take index cs))) found.2,
    )

-- each call has its reply
pub replied_each : (cs : List Call) (rs : List Reply) (s t : AbstractAssociation) (packets more : List (List ℕ))
    → IsRun cs s packets rs t more → length rs ≡ length cs
replied_each [] [] s t packets more run = refl
replied_each [] (r ∷ rs) s t packets more run = absurd run
replied_each (c ∷ cs) [] s t packets more run = absurd run
replied_each (c ∷ cs) (r ∷ rs) s t packets more (u, given, step, others) =
    ap suc (replied_each cs rs u t given more others)

pub each_is_replied : (cs : List Call) (rs : List Reply) (a b : Shown) (packets more : List (List ℕ))
    → RunsOn cs a packets rs b more → (h : History) → StandsOn a h → length rs ≡ length cs
each_is_replied cs rs a b packets more run h stands =
    let led = run.from h stands in replied_each cs rs (abstract a h) (abstract b led.0) packets more led.1

nothing_held : (came : List ChunkPayloadData) (a : Shown) → HoldsNothing a → SideHoldsOnly (IsAmong came) a
nothing_held came a none = record {
  streams = subst (AllByRecursion _) (sym none.streams) tt;
  kept = subst (AllByRecursion _) (sym none.kept) tt;
}

pub reads_give_what_came : (cs : List Call) (rs : List Reply) (a b : Shown) (packets more : List (List ℕ))
    → RunsOn cs a packets rs b more → (h : History) → StandsOn a h → HoldsNothing a → ReadsGiveWhatCame cs rs
reads_give_what_came cs rs a b packets more run h stands none =
    let led = run.from h stands in
    run_came cs rs [] (abstract a h) (abstract b led.0) packets more led.1 (λ works. nothing_held [] a none)

-- What a constructor leaves holds nothing

pub created_holds : (of_server : Option ServerConfig) (config : Settings) (size tag initial_tsn : ℕ) (cookie : List ℕ)
    (remote_addr : SocketAddr) (local_ip : Option IpAddr) (now : ℕ)
    → HoldsNothing (created of_server config size tag initial_tsn cookie remote_addr local_ip now)
unfolding sends_init
created_holds None config size tag initial_tsn cookie remote_addr local_ip now = record { streams = refl; kept = refl }
created_holds (Some server) config size tag initial_tsn cookie remote_addr local_ip now =
    record { streams = refl; kept = refl }

pub joined_holds : (config : Settings) (size : ℕ) (remote_addr : SocketAddr) (local_ip : Option IpAddr)
    (own peer : ChunkInit) → HoldsNothing (joined config size remote_addr local_ip own peer)
joined_holds config size remote_addr local_ip own peer = record { streams = refl; kept = refl }

pub if_ok : {A E : Type 0} (r : Result A E) (P Q : A → Type 0) → IfOk r P → ((a : A) → P a → Q a) → IfOk r Q
if_ok (Ok a) P Q h f = f a h
if_ok (Err e) P Q h f = h
