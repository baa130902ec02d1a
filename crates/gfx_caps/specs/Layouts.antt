-- The bodies of the client's messages, what stands behind the header ([MS-RDPEGFX] 2.2.2).
use Rattle.std.specs.Prelude.{List}
use Rattle.gfx_layout.specs.Shape.{u16, u32}
use Rattle.gfx_layout.specs.Layout.{Layout, done, number, sized, list, each}
use Rattle.gfx_caps.specs.declared.client_id.ClientId.{ClientId}
use Rattle.gfx_caps.specs.declared.client_id.ClientId.TheVariants as ids
use Rattle.gfx_caps.specs.declared.message.ClientPdu.{ClientPdu}
use Rattle.gfx_caps.specs.declared.message.ClientPdu.TheVariants.{Advertise, Ack, ImportOffer, QoeAck}
use Rattle.gfx_caps.specs.declared.sets.CapsSet.{CapsSet}
use Rattle.gfx_caps.specs.declared.entries.CacheEntry.{CacheEntry}
use Rattle.gfx_caps.specs.Entries.{cache_entry}

-- RDPGFX_FRAME_ACKNOWLEDGE_PDU, 2.2.2.13
abbrev pub frame_acknowledge : Layout ClientPdu
frame_acknowledge = number u32 λ depth. number u32 λ frame. number u32 λ total. done (Ack depth frame total)

-- RDPGFX_CAPSET, 2.2.1.6
abbrev pub caps_set : Layout CapsSet
caps_set = number u32 λ version. sized u32 λ body. done (record { version = version; body = body })

-- RDPGFX_CAPS_ADVERTISE_PDU, 2.2.2.18
abbrev pub caps_advertise : Layout ClientPdu
caps_advertise = number u16 λ count. each caps_set count λ sets. done (Advertise sets)

-- RDPGFX_CACHE_IMPORT_OFFER_PDU, 2.2.2.16, by what its entries say
abbrev pub cache_import_offer : {R : Type 0} → (List CacheEntry → R) → Layout R
cache_import_offer says = list u16 cache_entry λ entries. done (says entries)

-- RDPGFX_QOE_FRAME_ACKNOWLEDGE_PDU, 2.2.2.21
abbrev pub qoe_frame_acknowledge : Layout ClientPdu
qoe_frame_acknowledge =
    number u32 λ frame. number u32 λ timestamp. number u16 λ decoding. number u16 λ rendering. done (QoeAck frame timestamp decoding rendering)

-- the body of the messages with this id
abbrev pub layout_of : ClientId → Layout ClientPdu
layout_of ids.FrameAcknowledge = frame_acknowledge
layout_of ids.CacheImportOffer = cache_import_offer (λ entries. ImportOffer entries)
layout_of ids.CapsAdvertise = caps_advertise
layout_of ids.QoeFrameAcknowledge = qoe_frame_acknowledge
