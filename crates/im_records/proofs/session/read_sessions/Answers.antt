pub returns-clause-bad : Rattle.im_records.proofs.session.read_sessions.Goals.returns-clause-bad
returns-clause-bad c = λ bad row are. c.first_sessions.ensures.bad bad row
    (record { many = are.many; each = λ i lt. record { is = are.each i lt; fits = are.fits i lt } })
