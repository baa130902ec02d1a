-- Choosers that are brought to a session.
use Rattle.gfx_schedule.proofs.Unseen.{unseen}
use Rattle.gfx_session.proofs.ChosenKinds.{IsUnderWayBy, by_choosers}
use Rattle.gfx_laws.specs.Choosing.{AnyChoosersMayBeBrought, LaterKindsAreNotSeen}

pub not-seen : LaterKindsAreNotSeen
not-seen start script kinded other turns same agree = unseen start script kinded other turns same agree

pub may-be-brought : AnyChoosersMayBeBrought
may-be-brought session choosers is fresh =
    let by : IsUnderWayBy session choosers = by_choosers session choosers (is.under_way fresh) in
    record { origin = by.origin; kinded = by.kinded; begins = by.begins; turns = by.turns; stands = by.stands }
